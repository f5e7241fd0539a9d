-- What `Seconds.antt` says, held to the examples of 01, to the bounds that define a whole part, and to the logic's
-- own account of Rust's `as`.
use mathlib.Core.Path.{◌≡◌, refl, sym, ap, subst}
use mathlib.Core.Bool.{true, false}
use Prim.Native.Nat.{ℕ, suc, ◌*◌, ◌/◌, ◌^◌, ◌≤◌, ◌<◌, min}
use native.Mathlib.Nat.{div-one, mul-one, div-mul-le_self, div-lt_iff_lt-mul, lt-suc_self}
use lib.IntN.{ℤ, pos, negsuc}
use lib.Ieee.{Float, nan, inf, fin, binary64, up, down, round, sub, to_unsigned, of_bits}
use lib.Ieee.Fits.{down_pos}
use Rattle.time_seconds.specs.Seconds.{floor, whole, last32, last64, elapsed_of_value}

-- (h) 59.9 s: 59, NaN: 0. The f64 that 59.9 stands for is the one nearest to 599 / 10.
pub worked_h : whole last32 (elapsed_of_value (round binary64 false 599 10) (fin false 0 (pos 0))) ≡ 59
unfolding whole elapsed_of_value round sub
worked_h = refl

pub worked_h_nan : whole last32 (elapsed_of_value nan (fin false 0 (pos 0))) ≡ 0
unfolding whole elapsed_of_value round sub
worked_h_nan = refl

-- its bit pattern
pub worked_h_bits : of_bits binary64 0x404d_f333_3333_3333 ≡ round binary64 false 599 10
unfolding of_bits round
worked_h_bits = refl

-- a NaN origin, and every now
pub nan_origin : (now : Float) → elapsed_of_value now nan ≡ fin false 0 (pos 0)
unfolding elapsed_of_value sub
nan_origin nan = refl
nan_origin (inf s) = refl
nan_origin (fin s m e) = refl

-- the ends: 2 ^ 32 - 1/2, 2 ^ 32, 10 ^ 300, an infinity, -0.5
pub near_end : whole last32 (fin false 8589934591 (negsuc 0)) ≡ 4294967295
unfolding whole
near_end = refl

pub at_end : whole last32 (fin false 1 (pos 32)) ≡ 4294967295
unfolding whole
at_end = refl

pub huge : whole last64 (round binary64 false (10 ^ 300) 1) ≡ 18446744073709551615
unfolding whole round
huge = refl

pub below : whole last64 (fin true 1 (negsuc 0)) ≡ 0
unfolding whole
below = refl

-- the difference is rounded once: 0.3 - 0.1 as f64 is 0.19999999999999998
pub once : elapsed_of_value (round binary64 false 3 10) (round binary64 false 1 10) ≡ of_bits binary64 0x3fc9_9999_9999_9999
unfolding elapsed_of_value sub round of_bits
once = refl

-- a NaN counts 0, and an infinity above 0 the last number
pub nan-none : (last : ℕ) → whole last nan ≡ 0
unfolding whole
nan-none last = refl

pub infinite : (last : ℕ) → whole last (inf false) ≡ last
unfolding whole
infinite last = refl

-- a value a / c has the whole part a / c
pub floor-is : (m : ℕ) (e : ℤ) → floor m e ≡ m * up e / down e
floor-is m (pos k) = sym (div-one (m * 2 ^ k))
floor-is m (negsuc k) = ap (λ (z : ℕ). z / 2 ^ suc k) (sym (mul-one m))

-- `floor m e` is the whole number n with n ≤ m * 2 ^ e < n + 1, 2 ^ e being up e / down e
pub floor_low : (m : ℕ) (e : ℤ) → floor m e * down e ≤ m * up e
floor_low m e = subst (λ (n : ℕ). n * down e ≤ m * up e) (sym (floor-is m e)) (div-mul-le_self (m * up e) (down e))

pub floor_high : (m : ℕ) (e : ℤ) → m * up e < suc (floor m e) * down e
floor_high m e = subst (λ (n : ℕ). m * up e < suc n * down e) (sym (floor-is m e)) ((div-lt_iff_lt-mul (down_pos e)).0 (lt-suc_self (m * up e / down e)))

-- `whole` is what the logic says of Rust's `as u32` and `as u64`
pub as_u32 : (x : Float) → whole last32 x ≡ to_unsigned 32 x
unfolding whole to_unsigned
as_u32 nan = refl
as_u32 (inf true) = refl
as_u32 (inf false) = refl
as_u32 (fin true m e) = refl
as_u32 (fin false m e) = ap (λ (z : ℕ). min z 4294967295) (floor-is m e)

pub as_u64 : (x : Float) → whole last64 x ≡ to_unsigned 64 x
unfolding whole to_unsigned
as_u64 nan = refl
as_u64 (inf true) = refl
as_u64 (inf false) = refl
as_u64 (fin true m e) = refl
as_u64 (fin false m e) = ap (λ (z : ℕ). min z 18446744073709551615) (floor-is m e)
