-- The slips to exclude, each as a law: those of a send.
use Rattle.std.specs.Prelude.{if◌then◌else◌}
use mathlib.Core.Path.{◌≡◌, refl, ap}
use mathlib.Core.Bool.{Bool, true, false, not}
use mathlib.Core.List.{List, [], ◌++◌}
use Prim.Native.Nat.{ℕ, ◌<◌}
use native.Mathlib.Omega.{arith}
use lib.Dec.{ltb}
use lib.ListN.{length}
use Rattle.frame.specs.Frame.{Why, invalid, parse}
use Rattle.time_clock.specs.declared.Clock.{Clock}
use Rattle.time_clock.specs.Fields.{good_clock_value}
use Rattle.segment.specs.Plain.{Plain, with_input}
use Rattle.segment.specs.Calls.{Done, refused}
use Rattle.segment_send.specs.Steps.{handled_all}
use Rattle.segment_send.specs.Send.{send}
use Rattle.segment_send.proofs.SendLaws.{handled_all_invalid}

-- an invalid telegram drops all of the input
pub invalid_drops : (k : Clock) (s : Plain) (why : Why) → parse s.input ≡ invalid why → (handled_all k s).input ≡ []
invalid_drops k s why e = ap (λ s. s.input) (handled_all_invalid k s why e)

-- a refused send changes nothing
pub refused_stays : (piece : List ℕ) (k : Clock) (s : Plain) → 0 < (send piece k s).number → (send piece k s).segment ≡ s
unfolding send
refused_stays piece k s = go (ltb 1024 (length piece)) (not (good_clock_value k)) (ltb 4096 (length (handled_all k (with_input (s.input ++ piece) s)).queue))
  where
    t : Plain
    t = handled_all k (with_input (s.input ++ piece) s)

    go : (long bad full : Bool)
        → let r : Done = if long then refused 13 s else (if bad then refused 14 s else (if full then refused 15 s else record { number = 0; segment = t })) in
        0 < r.number → r.segment ≡ s
    go true bad full h = refl
    go false true full h = refl
    go false false true h = refl
    go false false false h = absurd (omega arith)
