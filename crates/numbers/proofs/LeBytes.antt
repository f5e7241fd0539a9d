-- std's bytes of a number, low byte first, in the terms of `little` and `number`, at every width.
use mathlib.Core.Path.{◌≡◌, refl, sym, ap, ap₂, ◌∙◌}
use mathlib.Core.List.{List, ◌∷◌}
use Prim.Native.Nat.{ℕ, zero, suc, ◌+◌, ◌*◌, ◌/◌, ◌%◌, ◌^◌, ◌-◌}
use native.Mathlib.Nat.{pow-suc, div-div-eq-div-mul, mul_comm, zero-add, one-le-pow}
use native.Mathlib.Numerals.{add-one}
use Rattle.std.proofs.Math.Arith.{mod-mul}
use native.Mathlib.Omega.{arith}
use lib.ListN.{take, drop}
use Rattle.std.specs.Int.{Width, w8, w16, w32, w64, w128, byte_len, byte_at, byte_worth, bytes_low_first, sum_through, to_le_bytes, from_le_bytes}
use Rattle.laws.specs.Words.{at}
use Rattle.numbers.specs.Values.{little}
use Rattle.numbers.specs.Number.{number}
use Rattle.numbers.proofs.NumberLaws.{number_add, number-take, number-drop}

-- n bytes of what stands above the low i
bytes_from : (n i v : ℕ) → bytes_low_first i n v ≡ little n (v / 256 ^ i)
unfolding little
bytes_from zero i v = refl
bytes_from (suc n) i v = ap₂ (λ b bs. b ∷ bs) (this i) (bytes_from n (suc i) v ∙ ap (little n) above)
  where
    this : (i : ℕ) → byte_at i v ≡ v / 256 ^ i % 256
    this zero = omega arith
    this (suc i) = refl

    above : v / 256 ^ suc i ≡ v / 256 ^ i / 256
    above = ap (λ k. v / k) (pow-suc 256 i) ∙ sym (div-div-eq-div-mul v (256 ^ i) 256)

-- `to_le_bytes`
pub little_bytes : (w : Width) (v : ℕ) → to_le_bytes w v ≡ little (byte_len w) v
little_bytes w v = bytes_from (byte_len w) 0 v ∙ ap (little (byte_len w)) (omega arith)

-- what stands above n bytes has no part in them
little_low : (n v : ℕ) → little n (v % 256 ^ n) ≡ little n v
unfolding little
little_low zero v = refl
little_low (suc n) v = ap₂ (λ b bs. b ∷ bs) (omega (arith, parts)) (ap (little n) (omega (arith, parts)) ∙ little_low n (v / 256))
  where
    parts : v % 256 ^ suc n ≡ v / 256 % 256 ^ n * 256 + v % 256
    parts = ap (λ k. v % k) (pow-suc 256 n) ∙ mod-mul v (one-le-pow n 256 (omega arith)) (omega arith)

-- `to_le_bytes` of what is left of a number that may pass the width
pub little_wrapped : (w : Width) (v u : ℕ) → v % 256 ^ byte_len w ≡ u % 256 ^ byte_len w → to_le_bytes w v ≡ little (byte_len w) u
little_wrapped w v u e =
    let n = byte_len w in
    little_bytes w v ∙ sym (little_low n v) ∙ ap (little n) e ∙ little_low n u

-- the sum of k + 1 bytes by their places
sum_is : (k : ℕ) (bs : List ℕ) → sum_through (λ i. byte_worth i (at bs i)) k ≡ number (suc k) 0 bs
unfolding number
sum_is zero bs = omega arith
sum_is (suc k) bs =
    let last : at bs (suc k) * 256 ^ suc k ≡ 256 ^ suc k * number 1 (suc k) bs = mul_comm (at bs (suc k)) (256 ^ suc k) ∙ ap (λ x. 256 ^ suc k * x) (omega arith) in
    omega (arith, sum_is k bs, last, more)
  where
    more : number (suc (suc k)) 0 bs ≡ number (suc k) 0 bs + 256 ^ suc k * number 1 (suc k) bs
    more = ap (λ n. number n 0 bs) (sym (add-one (suc k))) ∙ number_add (suc k) 1 0 bs ∙ ap (λ q. number (suc k) 0 bs + 256 ^ suc k * number 1 q bs) (zero-add (suc k))

-- `from_le_bytes`
pub number_bytes : (w : Width) (bs : List ℕ) → from_le_bytes w bs ≡ number (byte_len w) 0 bs
number_bytes w bs = sum_is (byte_len w - 1) bs ∙ ap (λ n. number n 0 bs) (some w)
  where
    some : (w : Width) → suc (byte_len w - 1) ≡ byte_len w
    some w8 = refl
    some w16 = refl
    some w32 = refl
    some w64 = refl
    some w128 = refl

-- the same of the bytes from a place on
pub number_at : (w : Width) (p : ℕ) (bs : List ℕ) {x : List ℕ} → x ≡ take (byte_len w) (drop p bs) → from_le_bytes w x ≡ number (byte_len w) p bs
number_at w p bs {x} e =
    let n = byte_len w in
    number_bytes w x ∙ ap (number n 0) e ∙ number-take n 0 n (drop p bs) (omega arith) ∙ sym (number-drop n p 0 bs) ∙ ap (λ q. number n q bs) (omega arith)
