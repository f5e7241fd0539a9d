-- A telegram that does not concern a meter leaves it as it is, and it does not reply.
use Rattle.std.specs.Prelude.{if◌then◌else◌}
use mathlib.Core.Path.{◌≡◌, refl, sym, ap, ◌∙◌}
use mathlib.Core.Bool.{false, ◌&&◌, ◌||◌, not}
use mathlib.Core.List.{List}
use Prim.Native.Nat.{ℕ, ◌+◌, ◌*◌}
use lib.Dec.{eqb}
use lib.Ieee.{Float}
use Rattle.std.proofs.lemmas.Bool.{or_parts}
use Rattle.laws.specs.Words.{at}
use Rattle.laws.proofs.Lists.{if_all, if_with}
use Rattle.frame.specs.Frame.{Telegram, ack, short, long}
use Rattle.time_clock.specs.declared.Clock.{Clock}
use Rattle.meter.specs.PlainMeter.{PlainMeter}
use Rattle.meter.specs.Meter.{with_selected_value}
use Rattle.meter_select.specs.Matching.{matches, id_matches_value}
use Rattle.meter_step.specs.Hear.{Heard, quiet, is_nke_value, is_req_ud2_value, fcb_of_value, is_snd_ud_value, is_select_value, reaches, target, nke, request, select, commanded, listens, hear}
use Rattle.meter_concern.specs.ProgramConcern.{concerns}

module _ (e : Float) (k : Clock) (m : PlainMeter) where
  abbrev Idle : Heard → Type 0
  Idle r = r ≡ quiet m

  -- another id is not matched
  other_id : (d : List ℕ) → id_matches_value d m.digits ≡ false → matches d m ≡ false
  unfolding matches
  other_id d h =
      ap
      (λ b.
      b
      && (eqb (at d 4 + at d 5 * 256) 0xFFFF || eqb (at d 4 + at d 5 * 256) m.manufacturer)
      && (eqb (at d 6) 0xFF || eqb (at d 6) m.version)
      && (eqb (at d 7) 0xFF || eqb (at d 7) m.medium))
      h

  -- a mask that misses a meter that is not selected
  missed : (d : List ℕ) → m.selected ≡ false → matches d m ≡ false → Idle (select d m)
  unfolding select
  missed d s h = rw h (ap (λ b. quiet (with_selected_value b m)) (sym s))

  idle : (t : Telegram) → concerns t m.primary m.selected m.digits ≡ false → Idle (listens t e k m)
  unfolding listens concerns target
  idle ack h = refl
  idle (short c a) h =
      if_all Idle (is_nke_value c) _ _ (ap (λ b. if b then nke a m else quiet m) h)
      (if_all Idle (is_req_ud2_value c) _ _ (ap (λ b. if b then request (fcb_of_value c) e k m else quiet m) h) refl)
  idle (long c a ci d) h =
      if_all Idle (not (is_snd_ud_value c)) _ _ refl
      (if_with Idle (is_select_value ci a) _ _
      (λ s.
      let o = or_parts m.selected (id_matches_value d m.digits) (sym (ap (λ b. if b then m.selected || id_matches_value d m.digits else reaches a m.primary m.selected) s) ∙ h) in
      missed d o.0 (other_id d o.1))
      (λ s.
      let o = sym (ap (λ b. if b then m.selected || id_matches_value d m.digits else reaches a m.primary m.selected) s) ∙ h in
      ap (λ b. if b then commanded ci d m else quiet m) o))

  pub unconcerned : (bus : ℕ) (t : Telegram) → concerns t m.primary m.selected m.digits ≡ false → hear bus t e k m ≡ quiet m
  unfolding hear
  unconcerned bus t h = if_all Idle (eqb m.baud bus) _ _ (idle t h) refl
