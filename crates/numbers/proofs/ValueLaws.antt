-- The bytes of a number, one by one and in parts.
use mathlib.Core.Path.{◌≡◌, refl, ap}
use mathlib.Core.List.{[], ◌∷◌, ◌++◌}
use Prim.Native.Nat.{ℕ, zero, suc, ◌+◌, ◌*◌, ◌/◌, ◌%◌, ◌^◌, ◌-◌, ◌≤◌}
use native.Mathlib.Nat.{zero-add, suc-add, pow-succ', mul_left_comm, div-div-eq-div-mul}
use native.Mathlib.Omega.{arith}
use Rattle.numbers.specs.Values.{little, bcd}

pub little_four : (v : ℕ) → little 4 v ≡ v % 256 ∷ v / 256 % 256 ∷ v / 65536 % 256 ∷ v / 16777216 % 256 ∷ []
unfolding little
little_four v = rw (third, fourth)
  where
    third : v / 256 / 256 ≡ v / 65536
    third = omega arith

    fourth : v / 65536 / 256 ≡ v / 16777216
    fourth = omega arith

-- the low bytes, then those of what stands above them
pub bcd_add : (m n v : ℕ) → bcd (m + n) v ≡ bcd m v ++ bcd n (v / 100 ^ m)
unfolding bcd
bcd_add zero n v = rw zero-add (ap (λ k. bcd n k) (omega arith))
bcd_add (suc m) n v = rw (suc-add, bcd_add m n (v / 100), pow-succ', ← div-div-eq-div-mul v 100 (100 ^ m))

-- what stands above n bytes has no part in them
pub bcd_low : (n v h : ℕ) → h * 100 ^ n ≤ v → bcd n (v - h * 100 ^ n) ≡ bcd n v
unfolding bcd
bcd_low zero v h fits = refl
bcd_low (suc n) v h fits = rw (tens, units, rest) (ap (λ l. (v / 10 % 10 * 16 + v % 10) ∷ l) (bcd_low n (v / 100) h (omega (arith, above))))
  where
    above : h * 100 ^ suc n ≡ 100 * (h * 100 ^ n)
    above = rw (pow-succ', mul_left_comm)

    tens : (v - h * 100 ^ suc n) / 10 % 10 ≡ v / 10 % 10
    tens = omega (arith, above)

    units : (v - h * 100 ^ suc n) % 10 ≡ v % 10
    units = omega (arith, above)

    rest : (v - h * 100 ^ suc n) / 100 ≡ v / 100 - h * 100 ^ n
    rest = omega (arith, above)
