-- The upper half of a product of 128 bits, from products of 64.
use mathlib.Core.Path.{◌≡◌, ap, sym, ◌∙◌}
use Prim.Native.Nat.{ℕ, ◌+◌, ◌*◌, ◌/◌, ◌%◌, ◌<◌, ◌≤◌}
use native.Mathlib.Nat.{mul_comm, mul_left_comm, mul-add, mul-le-mul, le-pred_of_lt, div-add-mod, div-div-eq-div-mul, mul-add-div}
use native.Mathlib.Omega.{arith}

-- a number of 64 bits is cut here
abbrev half : ℕ
half = 4294967296

-- a product of two halves leaves room for two halves more in 64 bits
pub product_bound : (a b : ℕ) → a < half → b < half → a * b ≤ 18446744065119617025
product_bound a b p q = mul-le-mul (le-pred_of_lt p) (le-pred_of_lt q)

-- a product by the halves of its factors
product_halves : (x m : ℕ) → x * m ≡ half * (half * (x / half * (m / half)) + x / half * (m % half) + x % half * (m / half)) + x % half * (m % half)
product_halves x m = omega (arith, mul_comm x m, split m x, mul_comm m (x / half), mul_comm m (x % half), split (x / half) m, split (x % half) m)
  where
    split : (y z : ℕ) → y * z ≡ half * (y * (z / half)) + y * (z % half)
    split y z = ap (λ k. y * k) (sym (div-add-mod z half)) ∙ mul-add y (half * (z / half)) (z % half) ∙ ap (λ k. k + y * (z % half)) (mul_left_comm y half (z / half))

-- the upper half, with t and r + t % half for the sums in the middle
pub product_upper : (x m p q r s t : ℕ) → p ≡ x / half * (m % half) → q ≡ x % half * (m % half) → r ≡ x % half * (m / half) → s ≡ x / half * (m / half) → t ≡ p + q / half → s + t / half + (r + t % half) / half ≡ x * m / (half * half)
product_upper x m p q r s t ep eq er es et = sym (rw (product_halves x m, ← ep, ← eq, ← er, ← es, ← div-div-eq-div-mul (half * (half * s + p + r) + q) half half, mul-add-div {m = half} (omega arith) (half * s + p + r) q) (omega arith))
