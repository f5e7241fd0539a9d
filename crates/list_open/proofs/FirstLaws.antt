-- The first record that fails: where it stands, and what stands before it.
use mathlib.Core.Path.{◌≡◌, refl, ap, ◌∙◌}
use mathlib.Core.Bool.{Bool, true, false, ◌&&◌}
use mathlib.Core.List.{List, [], ◌∷◌, ◌++◌}
use Prim.Native.Nat.{ℕ, suc, ◌+◌, ◌<◌}
use native.Mathlib.Omega.{arith}
use lib.Dec.{eqb}
use lib.ListN.{length, length-append}
use borrow.Author.Tests.{eqb-true, eqb-false, ne_eqb}
use Rattle.laws.specs.Words.{at}
use Rattle.laws.proofs.Lists.{and_l, and_r}
use Rattle.list.specs.Layout.{Listed}
use Rattle.list_check.specs.Check.{check, all_pass_value}
use Rattle.list_check.specs.Checked.{failing_of}
use Rattle.list_open.specs.Opening.{checks, least_below, first_failing}
use Rattle.list_open.specs.Theorems.{FailsWith4To9}
use Rattle.list_check.proofs.VerdictLaws.{check-number, failing_between}

-- the number that is named
abbrev pub first_number : List Listed → ℕ
first_number rs = at (checks rs) (first_failing rs)

-- ---- a record before others

module _ (r : Listed) (rs : List Listed) where
  -- it passes
  pub first-later : check r ≡ 0 → first_failing (r ∷ rs) ≡ suc (first_failing rs)
  unfolding least_below
  first-later h = rw h

  pub number-later : check r ≡ 0 → first_number (r ∷ rs) ≡ first_number rs
  number-later h = ap (at (checks (r ∷ rs))) (first-later h)

  -- it fails
  pub first_here : eqb (check r) 0 ≡ false → first_failing (r ∷ rs) ≡ 0
  unfolding least_below
  first_here h = rw h

  pub number_here : eqb (check r) 0 ≡ false → first_number (r ∷ rs) ≡ check r
  number_here h = ap (at (checks (r ∷ rs))) (first_here h)

-- ---- the record that is named

pub fails_4_to_9 : FailsWith4To9
fails_4_to_9 r h =
    let e = check-number r h in
    let b = failing_between (failing_of (check r)) in
    (omega (arith, e, b.0), omega (arith, e, b.1))

-- a record that fails, where all before it pass
pub record First (rs : List Listed) (number index : ℕ) : Type 0 where
  pub before : List Listed
  pub named : Listed
  pub after : List Listed
  pub is : rs ≡ before ++ named ∷ after
  pub passed : all_pass_value before ≡ true
  pub fails : check named ≡ 0 → ⊥
  pub number_is : number ≡ check named
  pub index_is : index ≡ length before

pub first-is : (rs : List Listed) → all_pass_value rs ≡ false → First rs (first_number rs) (first_failing rs)
first-is [] h = let z : ◌≡◌ {A = ℕ} 0 1 = cc in absurd (omega arith)
first-is (r ∷ rs) h = go (eqb (check r) 0) refl h (first-is rs)
  where
    go : (t : Bool) → eqb (check r) 0 ≡ t → t && all_pass_value rs ≡ false → (all_pass_value rs ≡ false → First rs (first_number rs) (first_failing rs))
        → First (r ∷ rs) (first_number (r ∷ rs)) (first_failing (r ∷ rs))
    go true e f more =
        let z = eqb-true (check r) 0 e in
        let s = more f in
        record {
          before = r ∷ s.before;
          named = s.named;
          after = s.after;
          is = ap (λ x. r ∷ x) s.is;
          passed = rw e s.passed;
          fails = s.fails;
          number_is = number-later r rs z ∙ s.number_is;
          index_is = first-later r rs z ∙ ap suc s.index_is;
        }
    go false e f more =
        record {
          before = [];
          named = r;
          after = rs;
          is = refl;
          passed = refl;
          fails = eqb-false (check r) 0 e;
          number_is = number_here r rs e;
          index_is = first_here r rs e;
        }

-- a record that is named has a number above 0, and an index below the number of records
pub first_inside : (rs : List Listed) → all_pass_value rs ≡ false → (0 < first_number rs) × (first_failing rs < length rs)
first_inside rs h =
    let s = first-is rs h in
    let e : length rs ≡ length s.before + suc (length s.after) = ap length s.is ∙ length-append s.before (s.named ∷ s.after) in
    (omega (arith, s.number_is, fails_4_to_9 s.named s.fails), omega (arith, e, s.index_is))

-- any other way to name a record that fails, all before it passing, names the same
module _ (r : Listed) (after : List Listed) (fails : check r ≡ 0 → ⊥) where
  pub some_fail : (before : List Listed) → all_pass_value before ≡ true → all_pass_value (before ++ r ∷ after) ≡ false
  some_fail [] h = rw (ne_eqb (check r) 0 fails)
  some_fail (b ∷ bs) h = rw (and_l (eqb (check b) 0) (all_pass_value bs) h) (some_fail bs (and_r (eqb (check b) 0) (all_pass_value bs) h))

  pub first_only : (before : List Listed) → all_pass_value before ≡ true → first_failing (before ++ r ∷ after) ≡ length before
  first_only [] h = first_here r after (ne_eqb (check r) 0 fails)
  first_only (b ∷ bs) h =
      first-later b (bs ++ r ∷ after) (eqb-true (check b) 0 (and_l (eqb (check b) 0) (all_pass_value bs) h)) ∙ ap suc (first_only bs (and_r (eqb (check b) 0) (all_pass_value bs) h))

  pub number_only : (before : List Listed) → all_pass_value before ≡ true → first_number (before ++ r ∷ after) ≡ check r
  number_only [] h = number_here r after (ne_eqb (check r) 0 fails)
  number_only (b ∷ bs) h =
      number-later b (bs ++ r ∷ after) (eqb-true (check b) 0 (and_l (eqb (check b) 0) (all_pass_value bs) h)) ∙ number_only bs (and_r (eqb (check b) 0) (all_pass_value bs) h)
