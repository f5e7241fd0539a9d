-- A mask's digits against an id's, two by two, as the bytes have them.
use mathlib.Core.Path.{◌≡◌, refl, ◌∙◌}
use mathlib.Core.Bool.{Bool, true, false, ◌&&◌, ◌||◌}
use mathlib.Core.List.{List, [], ◌∷◌}
use Prim.Native.Nat.{ℕ, ◌/◌, ◌%◌, ◌<◌, ◌^◌}
use native.Mathlib.Omega.{arith}
use lib.Dec.{eqb}
use Rattle.std.specs.Int.{w32, to_le_bytes}
use Rattle.laws.specs.Words.{at}
use Rattle.meter_identity.specs.Identity.{nibbles, digits_of_value}
use Rattle.meter_select.specs.Matching.{alike}

-- the two digits of a byte of the mask against the two of a byte of the id
abbrev pub two : ℕ → ℕ → Bool
two b v = alike (b / 16 ∷ b % 16 ∷ []) (v / 16 ∷ v % 16 ∷ [])

alike_two : (a b x y : ℕ) (ds xs : List ℕ) → alike (a ∷ b ∷ ds) (x ∷ y ∷ xs) ≡ (alike (a ∷ b ∷ []) (x ∷ y ∷ []) && alike ds xs)
unfolding alike
alike_two a b x y ds xs = go (eqb a 0xF || eqb a x) (eqb b 0xF || eqb b y) (alike ds xs)
  where
    go : (p q r : Bool) → (p && (q && r)) ≡ ((p && (q && true)) && r)
    go true true r = refl
    go true false r = refl
    go false q r = refl

digits_bytes : (id : ℕ) → id < 2 ^ 32
    → digits_of_value id
    ≡ (id / 0x1000000 % 256 / 16
    ∷ id / 0x1000000 % 256 % 16
    ∷ id / 0x10000 % 256 / 16
    ∷ id / 0x10000 % 256 % 16
    ∷ id / 0x100 % 256 / 16
    ∷ id / 0x100 % 256 % 16
    ∷ id % 256 / 16
    ∷ id % 256 % 16
    ∷ [])
unfolding digits_of_value
digits_bytes id h =
    let e7 : id / 0x10000000 % 16 ≡ id / 0x1000000 % 256 / 16 = omega arith in
    let e6 : id / 0x1000000 % 16 ≡ id / 0x1000000 % 256 % 16 = omega arith in
    let e5 : id / 0x100000 % 16 ≡ id / 0x10000 % 256 / 16 = omega arith in
    let e4 : id / 0x10000 % 16 ≡ id / 0x10000 % 256 % 16 = omega arith in
    let e3 : id / 0x1000 % 16 ≡ id / 0x100 % 256 / 16 = omega arith in
    let e2 : id / 0x100 % 16 ≡ id / 0x100 % 256 % 16 = omega arith in
    let e1 : id / 0x10 % 16 ≡ id % 256 / 16 = omega arith in
    let e0 : id % 16 ≡ id % 256 % 16 = omega arith in
    cc

-- with the id's bytes as std gives them, low byte first
pub by_bytes : (d : List ℕ) (id : ℕ) → id < 2 ^ 32
    → alike (nibbles d) (digits_of_value id)
    ≡ (two (at d 3) (at (to_le_bytes w32 id) 3)
    && (two (at d 2) (at (to_le_bytes w32 id) 2)
    && (two (at d 1) (at (to_le_bytes w32 id) 1)
    && two (at d 0) (at (to_le_bytes w32 id) 0))))
unfolding nibbles
by_bytes d id h =
    rw (digits_bytes id h) (alike_two (at d 3 / 16) (at d 3 % 16) (id / 0x1000000 % 256 / 16) (id / 0x1000000 % 256 % 16) _ _
    ∙ rw (
      alike_two (at d 2 / 16) (at d 2 % 16) (id / 0x10000 % 256 / 16) (id / 0x10000 % 256 % 16) _ _,
      alike_two (at d 1 / 16) (at d 1 % 16) (id / 0x100 % 256 / 16) (id / 0x100 % 256 % 16) _ _,
    ))
