-- Sending a mask to packed meters is 01's probe of the segment that they stand for: the mask goes through send, the
-- E5 are counted, the reply is taken whole.
use Rattle.std.specs.Prelude.{if◌then◌else◌}
use mathlib.Core.Path.{◌≡◌, refl, sym, ap, ap₂, ◌∙◌}
use mathlib.Core.Bool.{Bool, true, false, ◌&&◌, ◌||◌, not, and_comm}
use mathlib.Core.List.{List, [], ◌∷◌, map}
use Prim.Native.Nat.{ℕ, zero, suc, ◌+◌, ◌/◌, ◌%◌, ◌≤◌, ◌<◌}
use native.Mathlib.Nat.{zero-add}
use native.Mathlib.Omega.{arith}
use lib.Dec.{eqb}
use lib.Ieee.{Float}
use lib.ListN.{length}
use Rattle.laws.specs.Words.{keep, Every, bit_if, within}
use Rattle.meter_identity.specs.Identity.{digits_of_value}
use Rattle.meter.specs.PlainMeter.{PlainMeter}
use Rattle.time_clock.specs.declared.Clock.{Clock}
use Rattle.meter.specs.Meter.{hears, flaky}
use Rattle.meter_select.specs.Matching.{matches}
use Rattle.meter_step.specs.Hear.{Heard, quiet, select, hear}
use Rattle.meter_step.proofs.HearLaws.{hear-select}
use Rattle.list_open.specs.Opening.{capacity}
use Rattle.time_clock.specs.Fields.{good_clock_value}
use Rattle.segment_send.proofs.SendLaws.{at_rest_value}
use Rattle.search_walk.specs.Walk.{probe}
use Rattle.search_walk.specs.Entries.{begins}
use Rattle.search_walk.proofs.Model.{Prefix}
use Rattle.search_walk.proofs.MaskLaws.{mask_data, mask_is, mask-matches}
use Rattle.search_walk.proofs.ProbeLaws.{secs, called, probed_m, probe-rest}
use Rattle.search_packed.specs.ProgramMarks.{marked, masked, acked, swept_by, fold_by}
use Rattle.search_packed.specs.ProgramPacked.{span_of}
use Rattle.search.specs.ProgramPacking.{on, as_marked, seen_as}
use Rattle.search.proofs.MarkLaws.{marked-odd, marked_kind, Bits, bits_kept, Silent, silent_marked, select-marked, acknowledged_meter}
use Rattle.search.proofs.KeyDigits.{digits_eight}
use Rattle.search.proofs.Ranges.{low_of, inside_begins}

-- ---- a meter with its key and its mark

pub record Holds (bus : ℕ) (m : PlainMeter) (key s : ℕ) : Type 0 where
  pub small : key < 0x100000000
  pub digits : m.digits ≡ digits_of_value key
  pub bits : eqb m.baud bus ≡ true → Bits m.fault s
  pub away : eqb m.baud bus ≡ false → Silent s

-- all of them; marks past the meters stand for none
abbrev pub AllHold : ℕ → List PlainMeter → List ℕ → List ℕ → Type 0
AllHold bus [] ks ss = Every Silent ss
AllHold bus (m ∷ ms) [] ss = ⊥
AllHold bus (m ∷ ms) (k ∷ ks) [] = ⊥
AllHold bus (m ∷ ms) (k ∷ ks) (s ∷ ss) = Holds bus m k s × AllHold bus ms ks ss

-- the meters as their marks have them
unfoldable pub seen_all : ℕ → List PlainMeter → List ℕ → List PlainMeter
seen_all bus [] ss = []
seen_all bus (m ∷ ms) [] = []
seen_all bus (m ∷ ms) (s ∷ ss) = seen_as bus m s ∷ seen_all bus ms ss

-- what changes marks so that each still stands for its meter, or for none
pub record Keeping (f : ℕ → ℕ → ℕ) : Type 0 where
  pub meter : (bus : ℕ) (m : PlainMeter) (key s : ℕ) → Holds bus m key s → Holds bus m key (f key s)
  pub none : (key s : ℕ) → Silent s → Silent (f key s)

module _ (f : ℕ → ℕ → ℕ) (g : Keeping f) where
  none_kept : (n : ℕ) (ks ss : List ℕ) → Every Silent ss → Every Silent (swept_by f n ks ss)
  none_kept zero ks ss q = q
  none_kept (suc n) [] ss q = q
  none_kept (suc n) (k ∷ ks) [] q = q
  none_kept (suc n) (k ∷ ks) (s ∷ ss) q = (g.none k s q.0, none_kept n ks ss q.1)

  pub all_kept : (bus : ℕ) (n : ℕ) (ms : List PlainMeter) (ks ss : List ℕ) → AllHold bus ms ks ss → AllHold bus ms ks (swept_by f n ks ss)
  all_kept bus n [] ks ss q = none_kept n ks ss q
  all_kept bus zero (m ∷ ms) ks ss q = q
  all_kept bus (suc n) (m ∷ ms) [] ss q = q
  all_kept bus (suc n) (m ∷ ms) (k ∷ ks) [] q = q
  all_kept bus (suc n) (m ∷ ms) (k ∷ ks) (s ∷ ss) q = (g.meter bus m k s q.0, all_kept bus n ms ks ss q.1)

pub masked_keeps : (low high : ℕ) → Keeping (masked low high)
unfolding masked
masked_keeps low high =
    record {
      meter = λ bus m key s h. record {
        small = h.small;
        digits = h.digits;
        bits = λ e. bits_kept m.fault s (masked low high key s) (ap (λ x. x % 16) (marked_kind s (within low high key))) (h.bits e);
        away = λ e. silent_marked s (within low high key) (h.away e);
      };
      none = λ key s q. silent_marked s (within low high key) q;
    }

-- ---- one meter

seen_digits : (bus : ℕ) (m : PlainMeter) (s : ℕ) → (seen_as bus m s).digits ≡ m.digits
unfolding seen_as as_marked
seen_digits bus m s = go (eqb m.baud bus)
  where
    go : (b : Bool) → (if b then as_marked m s else m).digits ≡ m.digits
    go true = refl
    go false = refl

-- it hears if it is steady, or if its mark says so
pub standing-hears : (m : PlainMeter) (s : ℕ) → Bits m.fault s → hears (as_marked m s) ≡ (on (s / 16 % 2) || on (s / 4 % 2))
unfolding hears as_marked
standing-hears m s k = go (flaky m.fault) k.steady
  where
    go : (f : Bool) → on (s / 16 % 2) ≡ not f → (if f then on (s / 4 % 2) else true) ≡ (on (s / 16 % 2) || on (s / 4 % 2))
    go true e = sym (ap (λ x. x || on (s / 4 % 2)) e)
    go false e = sym (ap (λ x. x || on (s / 4 % 2)) e)

module _ (k : Clock) (bus : ℕ) (o : Float) (p : List ℕ) (u : ℕ) (w : Prefix p) (l : length p + u ≡ 8) where
  abbrev low : ℕ
  low = low_of p u

  abbrev high : ℕ
  high = low_of p u + span_of u

  module _ (m : PlainMeter) (key s : ℕ) (h : Holds bus m key s) where
    in_mask : within low high key ≡ begins p m.digits
    in_mask = inside_begins p u key w l h.small ∙ ap (begins p) (sym h.digits)

    eight_digits_lem : length m.digits ≡ 8
    eight_digits_lem = ap length h.digits ∙ digits_eight key

    -- the meter afterwards is the one that its new mark stands for
    one_probed : probed_m k bus o p (seen_as bus m s) ≡ seen_as bus m (masked low high key s)
    unfolding seen_as masked as_marked
    one_probed =
        ap (λ (t : Heard). t.meter) (ap (λ t. hear bus t (secs k bus o) k (seen_as bus m s)) (mask_is p) ∙ hear-select bus (mask_data p) (secs k bus o) k (seen_as bus m s))
        ∙ go (eqb m.baud bus) refl
      where
        d : List ℕ
        d = mask_data p

        go : (b : Bool) → eqb m.baud bus ≡ b
            → (if eqb (if b then as_marked m s else m).baud bus then select d (if b then as_marked m s else m) else quiet (if b then as_marked m s else m)).meter
            ≡ (if b then as_marked m (marked s (bit_if (within low high key))) else m)
        go true e =
            ap (λ x. (if x then select d (as_marked m s) else quiet (as_marked m s)).meter) e
            ∙ ap (λ (t : Heard). t.meter) (select-marked d m s (h.bits e))
            ∙ acknowledged_meter (on (marked s (bit_if (matches d m)) % 2)) (as_marked m (marked s (bit_if (matches d m))))
            ∙ ap (λ x. as_marked m (marked s (bit_if x))) (mask-matches p m w eight_digits_lem ∙ sym in_mask)
        go false e = ap (λ x. (if x then select d m else quiet m).meter) e

    -- it acknowledges exactly if its new mark is odd
    one_called : masked low high key s % 2 ≡ bit_if (called k bus o p (seen_as bus m s))
    unfolding masked seen_as as_marked
    one_called = marked-odd s (within low high key) ∙ ap bit_if (ap (λ b. (on (s / 16 % 2) || on (s / 4 % 2)) && b) in_mask ∙ sym (go (eqb m.baud bus) refl))
      where
        go : (b : Bool) → eqb m.baud bus ≡ b → called k bus o p (seen_as bus m s) ≡ ((on (s / 16 % 2) || on (s / 4 % 2)) && begins p m.digits)
        go true e =
            ap (λ b. called k bus o p (if b then as_marked m s else m)) e
            ∙ ap₂ (λ x y. x && (begins p m.digits && y)) e (standing-hears m s (h.bits e))
            ∙ and_comm (begins p m.digits) (on (s / 16 % 2) || on (s / 4 % 2))
        go false e =
            ap (λ b. called k bus o p (if b then as_marked m s else m)) e
            ∙ ap (λ x. x && (begins p m.digits && hears m)) e
            ∙ sym (ap₂ (λ x y. (x || y) && begins p m.digits) (h.away e).steady (h.away e).misses)

  -- ---- all meters

  all_probed : (n : ℕ) (ms : List PlainMeter) (ks ss : List ℕ) → length ms ≤ n → AllHold bus ms ks ss
      → map (probed_m k bus o p) (seen_all bus ms ss) ≡ seen_all bus ms (swept_by (masked low high) n ks ss)
  unfolding seen_all
  all_probed n [] ks ss h q = refl
  all_probed zero (m ∷ ms) ks ss h q = absurd (omega arith)
  all_probed (suc n) (m ∷ ms) [] ss h q = absurd q
  all_probed (suc n) (m ∷ ms) (k ∷ ks) [] h q = absurd q
  all_probed (suc n) (m ∷ ms) (key ∷ ks) (s ∷ ss) h q = ap₂ (λ x xs. x ∷ xs) (one_probed m key s q.0) (all_probed n ms ks ss (omega arith) q.1)

  none_called : (n a : ℕ) (ks ss : List ℕ) → Every Silent ss → fold_by (acked low high) a n ks ss ≡ a
  unfolding acked masked
  none_called zero a ks ss q = refl
  none_called (suc n) a [] ss q = refl
  none_called (suc n) a (key ∷ ks) [] q = refl
  none_called (suc n) a (key ∷ ks) (s ∷ ss) q =
      none_called n (a + masked low high key s % 2) ks ss q.1
      ∙ omega (arith, marked-odd s (within low high key) ∙ ap bit_if (ap₂ (λ x y. (x || y) && within low high key) q.0.steady q.0.misses))

  all_called : (n a : ℕ) (ms : List PlainMeter) (ks ss : List ℕ) → length ms ≤ n → AllHold bus ms ks ss
      → fold_by (acked low high) a n ks ss ≡ a + length (keep (called k bus o p) (seen_all bus ms ss))
  unfolding seen_all acked
  all_called n a [] ks ss h q = none_called n a ks ss q ∙ omega arith
  all_called zero a (m ∷ ms) ks ss h q = absurd (omega arith)
  all_called (suc n) a (m ∷ ms) [] ss h q = absurd q
  all_called (suc n) a (m ∷ ms) (key ∷ ks) [] h q = absurd q
  all_called (suc n) a (m ∷ ms) (key ∷ ks) (s ∷ ss) h q =
      all_called n (a + masked low high key s % 2) ms ks ss (omega arith) q.1
      ∙ go (called k bus o p (seen_as bus m s)) (one_called m key s q.0)
    where
      rest : List PlainMeter
      rest = keep (called k bus o p) (seen_all bus ms ss)

      go : (b : Bool) → masked low high key s % 2 ≡ bit_if b
          → a + masked low high key s % 2 + length rest ≡ a + length (if b then seen_as bus m s ∷ rest else rest)
      go true e = omega arith
      go false e = omega arith

  seen_eight : (ms : List PlainMeter) (ks ss : List ℕ) → AllHold bus ms ks ss → Every (λ m. length m.digits ≡ 8) (seen_all bus ms ss)
  unfolding seen_all
  seen_eight [] ks ss q = tt
  seen_eight (m ∷ ms) [] ss q = absurd q
  seen_eight (m ∷ ms) (key ∷ ks) [] q = absurd q
  seen_eight (m ∷ ms) (key ∷ ks) (s ∷ ss) q = (ap length (seen_digits bus m s) ∙ eight_digits_lem m key s q.0, seen_eight ms ks ss q.1)

pub seen_length : (bus : ℕ) (ms : List PlainMeter) (ks ss : List ℕ) → AllHold bus ms ks ss → length (seen_all bus ms ss) ≡ length ms
unfolding seen_all
seen_length bus [] ks ss q = refl
seen_length bus (m ∷ ms) [] ss q = absurd q
seen_length bus (m ∷ ms) (key ∷ ks) [] q = absurd q
seen_length bus (m ∷ ms) (key ∷ ks) (s ∷ ss) q = ap suc (seen_length bus ms ks ss q.1)

-- `send_mask` is 01's probe: how many acknowledge, and the segment afterwards
pub probe-packed : (k : Clock) (bus : ℕ) (o : Float) → good_clock_value k ≡ true → (p : List ℕ) (u : ℕ) → Prefix p → length p + u ≡ 8
    → (ms : List PlainMeter) (ks ss : List ℕ) → length ms ≤ capacity → AllHold bus ms ks ss
    → probe k p (at_rest_value bus o (seen_all bus ms ss))
    ≡ (fold_by (acked (low_of p u) (low_of p u + span_of u)) 0 capacity ks ss, at_rest_value bus o (seen_all bus ms (swept_by (masked (low_of p u) (low_of p u + span_of u)) capacity ks ss)))
unfolding capacity
probe-packed k bus o gc p u w l ms ks ss few q =
    probe-rest k bus o gc p w (seen_all bus ms ss) (seen_eight k bus o p u w l ms ks ss q) (omega (arith, seen_length bus ms ks ss q))
    ∙ ap₂ (λ n ns. (n, at_rest_value bus o ns)) (sym (all_called k bus o p u w l capacity 0 ms ks ss few q ∙ zero-add (length (keep (called k bus o p) (seen_all bus ms ss)))))
    (all_probed k bus o p u w l capacity ms ks ss few q)
