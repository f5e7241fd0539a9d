-- Numbers of several bytes, over their width.
use mathlib.Core.Path.{◌≡◌, refl, sym, ap, ap₂, ◌∙◌}
use mathlib.Core.List.{List, ◌∷◌}
use Prim.Native.Nat.{ℕ, zero, suc, ◌+◌, ◌*◌, ◌/◌, ◌%◌, ◌^◌, ◌<◌, ◌≤◌}
use native.Mathlib.Nat.{zero-add, add-zero, suc-add, add-suc, pow-suc, pow-succ', mul_assoc}
use native.Mathlib.Omega.{arith}
use lib.ListN.{take, drop}
use lib.Seq.{get_or-take, get_or-drop}
use Rattle.laws.specs.Words.{at}
use Rattle.numbers.specs.Values.{little}
use Rattle.numbers.specs.Number.{number}

-- the low bytes, then the high ones
pub number_add : (n m p : ℕ) (bs : List ℕ) → number (n + m) p bs ≡ number n p bs + 256 ^ n * number m (p + n) bs
unfolding number
number_add zero m p bs = rw (zero-add, add-zero) (omega arith)
number_add (suc n) m p bs = rw (suc-add, number_add n m (suc p) bs, pow-succ', suc-add p n, add-suc p n, mul_assoc) (omega arith)

-- a byte in front
number_cons : (n p b : ℕ) (bs : List ℕ) → number n (suc p) (b ∷ bs) ≡ number n p bs
unfolding number
number_cons zero p b bs = refl
number_cons (suc n) p b bs = ap (λ (x : ℕ). at bs p + 256 * x) (number_cons n (suc p) b bs)

-- a number that fits its bytes is read back
pub number-little : (n v : ℕ) → v < 256 ^ n → number n 0 (little n v) ≡ v
unfolding number little
number-little zero v h = omega arith
number-little (suc n) v h = rw (number_cons n 0 (v % 256) (little n (v / 256)), number-little n (v / 256) (omega (arith, pow-suc 256 n))) (omega arith)

-- bytes past the number have no part in it
pub number-take : (n p k : ℕ) (bs : List ℕ) → p + n ≤ k → number n p (take k bs) ≡ number n p bs
unfolding number
number-take zero p k bs h = refl
number-take (suc n) p k bs h = rw (get_or-take k bs p 0 (omega arith), number-take n (suc p) k bs (omega arith))

-- nor have those before it
pub number-drop : (n k p : ℕ) (bs : List ℕ) → number n (k + p) bs ≡ number n p (drop k bs)
unfolding number
number-drop zero k p bs = refl
number-drop (suc n) k p bs =
    let e : suc (k + p) ≡ k + suc p = omega arith in
    ap₂ (λ x y. x + 256 * y) (sym (get_or-drop k bs p 0)) (ap (λ x. number n x bs) e ∙ number-drop n k (suc p) bs)
