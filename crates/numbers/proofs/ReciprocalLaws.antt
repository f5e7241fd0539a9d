-- Division by multiplication with a reciprocal.
use mathlib.Core.Path.{◌≡◌, ap, ◌∙◌}
use Prim.Native.Nat.{ℕ, zero, suc, ◌+◌, ◌*◌, ◌/◌, ◌-◌, ◌<◌, ◌≤◌}
use native.Mathlib.Nat.{mul-zero, mul_assoc, mul_right_comm, mul-add, add-mul}
use native.Mathlib.Nat.{mul-le-mul_right, le_of_mul-le-mul_right, lt_of_mul-lt-mul_right}
use native.Mathlib.Nat.{div-div-eq-div-mul, div-mul-le_self, lt-div-mul-add, div-eq_of_lt-le}
use native.Mathlib.Numerals.{add-one}
use native.Mathlib.Omega.{arith}

-- A number x over the divisor d is x times the multiplier m over p, where p is 2 to the shift: m / p is 1 / d or more, by so
-- little that below b, which is 2 to the width, it does not count.
pub reciprocal : (d m p b x : ℕ) → p ≤ m * d → b * (m * d - p) < p → x < b → x * m / p ≡ x / d
reciprocal d m p b x enough slight fits = div-eq_of_lt-le p lower upper
  where
    divides : (d : ℕ) → p ≤ m * d → 0 < d
    divides zero h = omega (arith, slight, mul-zero m)
    divides (suc k) h = omega arith

    positive : 0 < d
    positive = divides d enough

    e : ℕ
    e = m * d - p

    whole : x * m * d ≡ x * p + x * e
    whole = mul_assoc x m d ∙ ap (λ k. x * k) over ∙ mul-add x p e
      where
        over : m * d ≡ p + e
        over = omega arith

    below : x * e < p
    below = omega (arith, mul-le-mul_right e fits, add-mul x 1 e, add-one x)

    at_most : x / d * p * d ≡ x / d * d * p
    at_most = mul_right_comm (x / d) p d

    one_more : (x / d + 1) * p * d ≡ (x / d * d + d) * p
    one_more = mul_right_comm (x / d + 1) p d ∙ ap (λ k. k * p) (add-mul (x / d) 1 d ∙ omega arith)

    lower : x / d * p ≤ x * m
    lower = le_of_mul-le-mul_right {k = d} (omega (arith, whole, at_most, mul-le-mul_right p (div-mul-le_self x d))) positive

    upper : x * m < (x / d + 1) * p
    upper = lt_of_mul-lt-mul_right d (omega (arith, whole, one_more, below, mul-le-mul_right p (lt-div-mul-add {a = x} positive), add-mul x 1 p, add-one x))

-- the same with a shift of a width more: the product's part above that width, over what is left of the shift
pub reciprocal_upper : (d m p b x : ℕ) → b * p ≤ m * d → b * (m * d - b * p) < b * p → x < b → x * m / b / p ≡ x / d
reciprocal_upper d m p b x enough slight fits = div-div-eq-div-mul (x * m) b p ∙ reciprocal d m (b * p) b x enough slight fits
