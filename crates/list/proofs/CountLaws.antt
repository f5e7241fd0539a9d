-- Counting the records: the loop's invariant, a turn, the two ends.
use Rattle.std.specs.Prelude.{Result, Ok, Err}
use mathlib.Core.Path.{◌≡◌, refl, sym, ap, ◌∙◌}
use mathlib.Core.List.{List}
use Prim.Native.Nat.{ℕ, ◌+◌, ◌-◌, ◌*◌, ◌≤◌, ◌<◌}
use native.Mathlib.Nat.{add-zero}
use native.Mathlib.Omega.{arith}
use lib.ListN.{length, take, drop, length-drop}
use borrow.Author.Tests.{lt-ltb, le-ltb, eq-eqb, ne_eqb}
use Rattle.std.proofs.lemmas.List.{take_rest}
use Rattle.laws.specs.Words.{at}
use Rattle.list.specs.Layout.{Listed, Layout, fits, no_fit, read_records}
use Rattle.list.specs.declared.LayoutError.{LayoutError}
use Rattle.list.specs.declared.LayoutError.TheVariants.{Unversioned, Unfit}
use Rattle.list.specs.ProgramReading.{count_of, layout_value, one, bad, end, step}
use Rattle.list.proofs.ReadLaws.{more, after_step, step_reads, step_shorter, reads_enough, enough}

-- k records more
abbrev plus : ℕ → Result ℕ LayoutError → Result ℕ LayoutError
plus k (Ok n) = Ok (k + n)
plus k (Err e) = Err e

plus_zero : (x : Result ℕ LayoutError) → x ≡ plus 0 x
plus_zero (Ok n) = ap (λ (k : ℕ). Ok k) (omega arith)
plus_zero (Err e) = refl

plus_more : (k : ℕ) (r : Listed) (x : Layout) → plus k (count_of (more r x)) ≡ plus (k + 1) (count_of x)
plus_more k r no_fit = refl
plus_more k r (fits rs) = ap (λ (k : ℕ). Ok k) (omega arith)

-- k records are read, and these bytes are left
pub record Counted (all rest : List ℕ) (k : ℕ) : Type 0 where
  pub few : k + length rest ≤ length all
  pub is : count_of (read_records (length all) all) ≡ plus k (count_of (read_records (length all) rest))

pub counted_none : (all : List ℕ) → Counted all all 0
counted_none all = record { few = omega arith; is = plus_zero (count_of (read_records (length all) all)) }

module _ {all rest : List ℕ} {k : ℕ} (c : Counted all rest k) where
  next : {n : ℕ} → n ≡ length all → read_records n rest ≡ after_step n (step rest)
  next {n} e = sym (reads_enough n rest (omega (arith, c.few))) ∙ step_reads n rest

  pub counted_more : {r : Listed} {left : List ℕ} → one r left ≡ step rest → Counted all left (k + 1)
  counted_more {r} {left} q =
      record {
        few = omega (arith, c.few, step_shorter rest q);
        is = c.is ∙ ap (λ (y : Layout). plus k (count_of y)) (next refl ∙ ap (after_step (length all)) (sym q)) ∙ plus_more k r (read_records (length all) left);
      }

  pub counted_bad : bad ≡ step rest → Err Unfit ≡ count_of (read_records (length all) all)
  counted_bad q = sym (c.is ∙ ap (λ (y : Layout). plus k (count_of y)) (next refl ∙ ap (after_step (length all)) (sym q)))

  pub counted_end : end ≡ step rest → Ok k ≡ count_of (read_records (length all) all)
  counted_end q = sym (c.is ∙ ap (λ (y : Layout). plus k (count_of y)) (next refl ∙ ap (after_step (length all)) (sym q)) ∙ ap (λ (k : ℕ). Ok k) (add-zero k))

-- ---- the whole list

pub layout_short : (bs : List ℕ) → length bs < 3 → Err Unversioned ≡ layout_value bs
unfolding layout_value
layout_short bs h = rw (lt-ltb (length bs) 3 h)

pub layout_version : (bs : List ℕ) → 3 ≤ length bs → (at bs 0 ≡ 1 → ⊥) → Err Unversioned ≡ layout_value bs
unfolding layout_value
layout_version bs h v = rw (le-ltb (length bs) 3 h, ne_eqb (at bs 0) 1 v)

module _ (bs : List ℕ) (h : 3 ≤ length bs) (v : at bs 0 ≡ 1) {n : ℕ} (e : n ≡ at bs 1 * 256 + at bs 2) where
  counted : n ≡ length (take (length bs - 3) (drop 3 bs)) → at bs 1 * 256 + at bs 2 ≡ length bs - 3
  counted l = sym e ∙ l ∙ ap length (take_rest bs 3) ∙ length-drop 3 bs

  pub layout_length : (n ≡ length (take (length bs - 3) (drop 3 bs)) → ⊥) → Err Unfit ≡ layout_value bs
  unfolding layout_value
  layout_length l = rw (le-ltb (length bs) 3 h, eq-eqb (at bs 0) 1 v, ne_eqb (at bs 1 * 256 + at bs 2) (length bs - 3) (λ q. l (e ∙ q ∙ sym (ap length (take_rest bs 3) ∙ length-drop 3 bs))))

  pub layout_records : n ≡ length (take (length bs - 3) (drop 3 bs))
      → {r : Result ℕ LayoutError} → r ≡ count_of (read_records (length (take (length bs - 3) (drop 3 bs))) (take (length bs - 3) (drop 3 bs))) → r ≡ layout_value bs
  unfolding layout_value
  layout_records l q =
      rw (le-ltb (length bs) 3 h, eq-eqb (at bs 0) 1 v, eq-eqb (at bs 1 * 256 + at bs 2) (length bs - 3) (counted l), ← enough (length bs) (drop 3 bs) (rw length-drop (omega arith)))
      (q ∙ ap (λ (x : List ℕ). count_of (read_records (length x) x)) (take_rest bs 3))
