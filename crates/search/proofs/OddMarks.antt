-- After a mask, an odd mark is one of a meter at bus baud that has the prefix and was reset; the acknowledgements are
-- the odd marks.
use mathlib.Core.Path.{◌≡◌, refl, sym, ap, ap₂, ◌∙◌}
use mathlib.Core.Bool.{Bool, true, false, ◌&&◌, ◌||◌, not, false≢true, and-false, or-true}
use mathlib.Core.List.{List, [], ◌∷◌}
use Prim.Native.Nat.{ℕ, zero, suc, ◌+◌, ◌/◌, ◌%◌, ◌≤◌}
use native.Mathlib.Omega.{arith}
use lib.Dec.{eqb}
use lib.ListN.{length}
use borrow.Author.Tests.{eqb-true, eqb-false}
use Rattle.laws.proofs.Lists.{and_r}
use Rattle.meter.specs.PlainMeter.{PlainMeter}
use Rattle.search_walk.specs.Entries.{begins}
use Rattle.search_walk.proofs.Model.{Prefix}
use Rattle.laws.specs.Words.{bit_if, within}
use Rattle.search_packed.specs.ProgramMarks.{marked, masked, acked, swept_by, fold_by}
use Rattle.search_packed.specs.ProgramPacked.{span_of}
use Rattle.search.specs.ProgramPacking.{on}
use Rattle.search.proofs.MarkLaws.{heard, marked_selected, marked-fresh, marked-clear}
use Rattle.search.proofs.ReadMarks.{Fresh}
use Rattle.search.proofs.Ranges.{low_of, inside_begins}
use Rattle.search.proofs.PackedProbe.{Holds, AllHold, masked_keeps}

pub record Selected (bus : ℕ) (p : List ℕ) (m : PlainMeter) (s : ℕ) : Type 0 where
  pub bus_baud : eqb m.baud bus ≡ true
  pub fresh : Fresh m s
  pub has : begins p m.digits ≡ true

abbrev pub IfOdd : ℕ → List ℕ → PlainMeter → ℕ → Type 0
IfOdd bus p m s = on (s % 2) ≡ true → Selected bus p m s

abbrev pub AllIfOdd : ℕ → List ℕ → List PlainMeter → List ℕ → Type 0
AllIfOdd bus p [] ss = Unit {0}
AllIfOdd bus p (m ∷ ms) [] = Unit {0}
AllIfOdd bus p (m ∷ ms) (s ∷ ss) = IfOdd bus p m s × AllIfOdd bus p ms ss

one_odd : (bus : ℕ) (p : List ℕ) (u : ℕ) → Prefix p → length p + u ≡ 8 → (m : PlainMeter) (key s : ℕ) → Holds bus m key s
    → IfOdd bus p m (masked (low_of p u) (low_of p u + span_of u) key s)
unfolding masked
one_odd bus p u w l m key s h odd = go (eqb m.baud bus) refl
  where
    b : Bool
    b = within (low_of p u) (low_of p u + span_of u) key

    t : ℕ
    t = marked s (bit_if b)

    yes : heard s b ≡ true
    yes = sym (marked_selected s b) ∙ odd

    go : (a : Bool) → eqb m.baud bus ≡ a → Selected bus p m t
    go true e =
        record {
          bus_baud = e;
          fresh = record {
            bits = ((masked_keeps (low_of p u) (low_of p u + span_of u)).meter bus m key s h).bits e;
            selected = eqb-true (t % 2) 1 odd;
            fresh = eqb-true (t / 2 % 2) 1 (marked-fresh s b ∙ ap (λ x. on (s / 2 % 2) || x) yes ∙ or-true (on (s / 2 % 2)));
            clear = omega (arith, eqb-false (t / 8 % 2) 1 (marked-clear s b ∙ ap (λ x. on (s / 8 % 2) && not x) yes ∙ and-false (on (s / 8 % 2))));
          };
          has = ap (begins p) h.digits ∙ sym (inside_begins p u key w l h.small) ∙ and_r (on (s / 16 % 2) || on (s / 4 % 2)) b yes;
        }
    go false e = absurd (false≢true (sym (ap₂ (λ x y. (x || y) && b) (h.away e).steady (h.away e).misses) ∙ yes))

pub all_odd : (bus : ℕ) (p : List ℕ) (u : ℕ) → Prefix p → length p + u ≡ 8 → (n : ℕ) (ms : List PlainMeter) (ks ss : List ℕ) → length ms ≤ n → AllHold bus ms ks ss
    → AllIfOdd bus p ms (swept_by (masked (low_of p u) (low_of p u + span_of u)) n ks ss)
all_odd bus p u w l n [] ks ss h q = tt
all_odd bus p u w l zero (m ∷ ms) ks ss h q = absurd (omega arith)
all_odd bus p u w l (suc n) (m ∷ ms) [] ss h q = absurd q
all_odd bus p u w l (suc n) (m ∷ ms) (key ∷ ks) [] h q = absurd q
all_odd bus p u w l (suc n) (m ∷ ms) (key ∷ ks) (s ∷ ss) h q = (one_odd bus p u w l m key s q.0, all_odd bus p u w l n ms ks ss (omega arith) q.1)

-- how many marks are odd
abbrev pub odds : ℕ → List ℕ → List ℕ → ℕ
odds zero ks ss = 0
odds (suc n) [] ss = 0
odds (suc n) (k ∷ ks) [] = 0
odds (suc n) (k ∷ ks) (s ∷ ss) = s % 2 + odds n ks ss

pub acked_odds : (low high n a : ℕ) (ks ss : List ℕ) → fold_by (acked low high) a n ks ss ≡ a + odds n ks (swept_by (masked low high) n ks ss)
unfolding acked
acked_odds low high zero a ks ss = omega arith
acked_odds low high (suc n) a [] ss = omega arith
acked_odds low high (suc n) a (k ∷ ks) [] = omega arith
acked_odds low high (suc n) a (k ∷ ks) (s ∷ ss) = acked_odds low high n (a + masked low high k s % 2) ks ss ∙ omega arith
