-- The slips to exclude, each as a law: those of one meter.
use Rattle.std.specs.Prelude.{if◌then◌else◌}
use mathlib.Core.Path.{◌≡◌, ap, ◌∙◌}
use mathlib.Core.Bool.{Bool, true, false, ◌&&◌}
use mathlib.Core.List.{List}
use Prim.Native.Nat.{ℕ}
use lib.Dec.{eqb}
use lib.Ieee.{Float}
use Rattle.frame.specs.Frame.{Telegram}
use Rattle.meter.specs.PlainMeter.{PlainMeter}
use Rattle.time_clock.specs.declared.Clock.{Clock}
use Rattle.meter.specs.Meter.{with_selected_value, reset, hears, offered}
use Rattle.meter_select.specs.Matching.{matches}
use Rattle.meter_step.specs.Hear.{quiet, answers, E5, nke, select, listens, hear}
use Rattle.meter_step.proofs.HearLaws.{select_selected, offered_selected}

-- a missed mask does not keep a selection
pub missed_deselects : (d : List ℕ) (m : PlainMeter) → matches d m ≡ false → (select d m).meter.selected ≡ false
missed_deselects d m h = select_selected d m ∙ ap (λ b. b && hears m) h

-- no telegram touches a meter at another baud, and it does not reply
pub other_baud : (bus : ℕ) (t : Telegram) (e : Float) (k : Clock) (m : PlainMeter) → eqb m.baud bus ≡ false → hear bus t e k m ≡ quiet m
unfolding hear
other_baud bus t e k m h = ap (λ b. if b then listens t e k m else quiet m) h

-- an NKE to FE deselects nobody
pub FE_keeps : (m : PlainMeter) → (nke 0xFE m).meter.selected ≡ m.selected
unfolding nke
FE_keeps m = go (hears m)
  where
    go : (b : Bool) → (if b then answers E5 (if false then with_selected_value false (reset (offered m)) else reset (offered m)) else quiet (offered m)).meter.selected ≡ m.selected
    go true = offered_selected m
    go false = offered_selected m
