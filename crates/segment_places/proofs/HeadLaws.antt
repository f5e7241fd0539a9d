-- Numbers and bytes at a place of a longer list.
use mathlib.Core.Path.{◌≡◌, refl, ap, ap₂, ◌∙◌}
use mathlib.Core.List.{List}
use Prim.Native.Nat.{ℕ, zero, suc, ◌+◌, ◌*◌, ◌≤◌, ◌<◌}
use native.Mathlib.Omega.{arith}
use lib.ListN.{drop}
use lib.Seq.{get_or-take, get_or-drop}
use Rattle.laws.specs.Words.{at}
use Rattle.numbers.specs.Number.{number}
use Rattle.segment_image.specs.Image.{block}

module _ (p w : ℕ) (l : List ℕ) where
  -- a byte of a block
  pub at_block : (k : ℕ) → k < w → at (block p w l) k ≡ at l (p + k)
  at_block k h = get_or-take w (drop p l) k 0 h ∙ get_or-drop p l k 0

  -- a number in a block
  pub number-block : (n k : ℕ) → k + n ≤ w → number n k (block p w l) ≡ number n (p + k) l
  unfolding number
  number-block zero k h = refl
  number-block (suc n) k h =
      let e : p + suc k ≡ suc (p + k) = omega arith in
      ap₂ (λ x y. x + 256 * y) (at_block k (omega arith)) (number-block n (suc k) (omega arith) ∙ ap (λ x. number n x l) e)
