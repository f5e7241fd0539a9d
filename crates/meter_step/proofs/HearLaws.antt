-- What the two telegrams of a search do to a meter.
use Rattle.std.specs.Prelude.{if◌then◌else◌}
use mathlib.Core.Path.{◌≡◌, refl, ◌∙◌, ap}
use mathlib.Core.Bool.{Bool, true, false, ◌&&◌}
use mathlib.Core.List.{List}
use Prim.Native.Nat.{ℕ}
use native.Mathlib.Omega.{arith}
use lib.Dec.{eqb}
use lib.Ieee.{Float}
use Rattle.laws.proofs.Lists.{if_all}
use Rattle.frame.specs.Frame.{Telegram, short, long}
use Rattle.meter_step.proofs.KeepLaws.{Fixed, hear_fixed}
use Rattle.meter.specs.PlainMeter.{PlainMeter}
use Rattle.time_clock.specs.declared.Clock.{Clock}
use Rattle.meter.specs.Meter.{with_selected_value, reset, flaky, hears, offered}
use Rattle.meter_request.specs.Asking.{asked}
use Rattle.meter_select.specs.Matching.{matches}
use Rattle.meter_reply.specs.Response.{readout}
use Rattle.meter_step.specs.Hear.{silence, says, Heard, quiet, answers, E5, target, request, select, listens, hear}

-- ---- the digits stay

pub hear_digits : (bus : ℕ) (t : Telegram) (e : Float) (k : Clock) (m : PlainMeter) → (hear bus t e k m).meter.digits ≡ m.digits
hear_digits bus t e k m = ap (λ (f : Fixed). f.digits) (hear_fixed bus t e k m)

-- ---- a select and a reading, one meter

pub hear-select : (bus : ℕ) (d : List ℕ) (e : Float) (k : Clock) (m : PlainMeter) → hear bus (long 0x53 0xFD 0x52 d) e k m ≡ (if eqb m.baud bus then select d m else quiet m)
unfolding hear listens
hear-select bus d e k m = refl

pub hear-reading : (bus : ℕ) (e : Float) (k : Clock) (m : PlainMeter)
    → hear bus (short 0x5B 0xFD) e k m ≡ (if eqb m.baud bus then (if m.selected then request false e k m else quiet m) else quiet m)
unfolding hear listens target
hear-reading bus e k m = refl

-- what a search must not change of a meter
pub record Alike (m n : PlainMeter) : Type 0 where
  pub baud : n.baud ≡ m.baud
  pub digits : n.digits ≡ m.digits
  pub fault : n.fault ≡ m.fault

pub alike_refl : (m : PlainMeter) → Alike m m
alike_refl m = record { baud = refl; digits = refl; fault = refl }

offered-alike : (m : PlainMeter) → Alike m (offered m)
unfolding offered
offered-alike m = if_all (Alike m) (flaky m.fault) _ _ (record { baud = refl; digits = refl; fault = refl }) (alike_refl m)

pub offered_selected : (m : PlainMeter) → (offered m).selected ≡ m.selected
unfolding offered
offered_selected m = if_all (λ (n : PlainMeter). n.selected ≡ m.selected) (flaky m.fault) _ _ refl refl

offered_readouts : (m : PlainMeter) → (offered m).readouts ≡ m.readouts
unfolding offered
offered_readouts m = if_all (λ (n : PlainMeter). n.readouts ≡ m.readouts) (flaky m.fault) _ _ refl refl

pub alike_trans : (m n o : PlainMeter) → Alike m n → Alike n o → Alike m o
alike_trans m n o a b = record { baud = b.baud ∙ a.baud; digits = b.digits ∙ a.digits; fault = b.fault ∙ a.fault }

module _ (d : List ℕ) (m : PlainMeter) where
  select-alike : Alike m (select d m).meter
  unfolding select
  select-alike =
      if_all (λ (h : Heard). Alike m h.meter) (matches d m) _ _
      (if_all (λ (h : Heard). Alike m h.meter) (hears m) _ _
      (alike_trans m (offered m) (reset (with_selected_value true (offered m))) (offered-alike m) (record { baud = refl; digits = refl; fault = refl }))
      (alike_trans m (offered m) (with_selected_value false (offered m)) (offered-alike m) (record { baud = refl; digits = refl; fault = refl })))
      (record { baud = refl; digits = refl; fault = refl })

  select_readouts : (select d m).meter.readouts ≡ m.readouts
  unfolding select
  select_readouts =
      if_all (λ (h : Heard). h.meter.readouts ≡ m.readouts) (matches d m) _ _
      (if_all (λ (h : Heard). h.meter.readouts ≡ m.readouts) (hears m) _ _ (offered_readouts m) (offered_readouts m)) refl

  pub select_selected : (select d m).meter.selected ≡ (matches d m && hears m)
  unfolding select
  select_selected = go (matches d m) (hears m)
    where
      go : (a b : Bool) → (if a then (if b then answers E5 (reset (with_selected_value true (offered m))) else quiet (with_selected_value false (offered m))) else quiet (with_selected_value false m)).meter.selected ≡ (a && b)
      go true true = refl
      go true false = refl
      go false b = refl

  select_reply : (select d m).reply ≡ (if matches d m && hears m then says E5 else silence)
  unfolding select
  select_reply = go (matches d m) (hears m)
    where
      go : (a b : Bool) → (if a then (if b then answers E5 (reset (with_selected_value true (offered m))) else quiet (with_selected_value false (offered m))) else quiet (with_selected_value false m)).reply
          ≡ (if a && b then says E5 else silence)
      go true true = refl
      go true false = refl
      go false b = refl

module _ (fcb : Bool) (e : Float) (k : Clock) (m : PlainMeter) where
  request-alike : Alike m (request fcb e k m).meter
  unfolding request asked
  request-alike =
      if_all (λ (h : Heard). Alike m h.meter) (hears m) _ _
      (alike_trans m (offered m) (asked fcb (offered m)) (offered-alike m) (record { baud = refl; digits = refl; fault = refl })) (offered-alike m)

  request_reply : (request fcb e k m).reply ≡ (if hears m then says (readout e k (asked fcb (offered m))) else silence)
  unfolding request
  request_reply = go (hears m)
    where
      go : (a : Bool) → (if a then (let n = asked fcb (offered m) in answers (readout e k n) n) else quiet (offered m)).reply ≡ (if a then says (readout e k (asked fcb (offered m))) else silence)
      go true = refl
      go false = refl

-- ---- the same, through hear

module _ (bus : ℕ) (e : Float) (k : Clock) (m : PlainMeter) where
  pub probed-alike : (d : List ℕ) → Alike m (hear bus (long 0x53 0xFD 0x52 d) e k m).meter
  probed-alike d = rw (hear-select bus d e k m) (if_all (λ (h : Heard). Alike m h.meter) (eqb m.baud bus) _ _ (select-alike d m) (alike_refl m))

  pub probed_readouts : (d : List ℕ) → (hear bus (long 0x53 0xFD 0x52 d) e k m).meter.readouts ≡ m.readouts
  probed_readouts d = rw (hear-select bus d e k m) (if_all (λ (h : Heard). h.meter.readouts ≡ m.readouts) (eqb m.baud bus) _ _ (select_readouts d m) refl)

  pub probed_selected : (d : List ℕ) → eqb m.baud bus ≡ true → (hear bus (long 0x53 0xFD 0x52 d) e k m).meter.selected ≡ (matches d m && hears m)
  probed_selected d h = rw (hear-select bus d e k m, h) (select_selected d m)

  pub probed_reply : (d : List ℕ) → (hear bus (long 0x53 0xFD 0x52 d) e k m).reply ≡ (if eqb m.baud bus && (matches d m && hears m) then says E5 else silence)
  probed_reply d = rw (hear-select bus d e k m) (go (eqb m.baud bus))
    where
      go : (a : Bool) → (if a then select d m else quiet m).reply ≡ (if a && (matches d m && hears m) then says E5 else silence)
      go true = select_reply d m
      go false = refl

  pub read_alike : Alike m (hear bus (short 0x5B 0xFD) e k m).meter
  read_alike =
      rw (hear-reading bus e k m) (if_all (λ (h : Heard). Alike m h.meter) (eqb m.baud bus) _ _
      (if_all (λ (h : Heard). Alike m h.meter) m.selected _ _ (request-alike false e k m) (alike_refl m)) (alike_refl m))

  pub read_reply : (hear bus (short 0x5B 0xFD) e k m).reply
      ≡ (if eqb m.baud bus && (m.selected && hears m) then says (readout e k (asked false (offered m))) else silence)
  read_reply = rw (hear-reading bus e k m) (go (eqb m.baud bus) m.selected)
    where
      go : (a b : Bool) → (if a then (if b then request false e k m else quiet m) else quiet m).reply
          ≡ (if a && (b && hears m) then says (readout e k (asked false (offered m))) else silence)
      go true true = request_reply false e k m
      go true false = refl
      go false b = refl

  -- who is not selected is left alone
  pub read_left : m.selected ≡ false → (hear bus (short 0x5B 0xFD) e k m).meter ≡ m
  read_left h = rw (hear-reading bus e k m) (go (eqb m.baud bus) m.selected h)
    where
      go : (a b : Bool) → b ≡ false → (if a then (if b then request false e k m else quiet m) else quiet m).meter ≡ m
      go true true f = let z : ◌≡◌ {A = ℕ} 0 1 = cc in absurd (omega arith)
      go true false f = refl
      go false b f = refl
