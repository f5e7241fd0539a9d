-- A number and its eight digits, base 16.
use mathlib.Core.Path.{◌≡◌, refl, ap, ◌∙◌}
use mathlib.Core.List.{List, [], ◌∷◌}
use Prim.Native.Nat.{ℕ, zero, suc, ◌+◌, ◌*◌, ◌/◌, ◌%◌, ◌≤◌, ◌<◌}
use native.Mathlib.Omega.{arith}
use lib.ListN.{length}
use Rattle.laws.specs.Words.{Every}
use Rattle.std.specs.List.{fold}
use Rattle.meter_identity.specs.Identity.{in_base, digits_of_value}
use Rattle.meter_identity.proofs.IdentityLaws.{nibbles_back}

-- digits behind a number, base 16: what the code computes
abbrev pub key_from : ℕ → List ℕ → ℕ
key_from a ds = fold (λ (n : ℕ) (d : ℕ). n * 16 + d) a ds

abbrev pub Nibbles : List ℕ → Type 0
Nibbles = Every (λ d. d < 16)

digit_chain : (n : ℕ)
    → (n / 0x100 ≡ n / 0x10 / 16) × (n / 0x1000 ≡ n / 0x100 / 16) × (n / 0x10000 ≡ n / 0x1000 / 16) × (n / 0x100000 ≡ n / 0x10000 / 16)
    × (n / 0x1000000 ≡ n / 0x100000 / 16) × (n / 0x10000000 ≡ n / 0x1000000 / 16)
digit_chain n = (omega arith, omega arith, omega arith, omega arith, omega arith, omega arith)

back : (q r : ℕ) → q ≡ r / 16 → q * 16 + r % 16 ≡ r
back q r e = omega arith

pub key_digits : (n : ℕ) → n < 0x100000000 → key_from 0 (digits_of_value n) ≡ n
unfolding digits_of_value
key_digits n h =
    let c = digit_chain n in
    let top : 0 * 16 + n / 0x10000000 % 16 ≡ n / 0x10000000 = omega arith in
    let d1 = ap (λ x. x * 16 + n / 0x1000000 % 16) top ∙ back (n / 0x10000000) (n / 0x1000000) c.5 in
    let d2 = ap (λ x. x * 16 + n / 0x100000 % 16) d1 ∙ back (n / 0x1000000) (n / 0x100000) c.4 in
    let d3 = ap (λ x. x * 16 + n / 0x10000 % 16) d2 ∙ back (n / 0x100000) (n / 0x10000) c.3 in
    let d4 = ap (λ x. x * 16 + n / 0x1000 % 16) d3 ∙ back (n / 0x10000) (n / 0x1000) c.2 in
    let d5 = ap (λ x. x * 16 + n / 0x100 % 16) d4 ∙ back (n / 0x1000) (n / 0x100) c.1 in
    let d6 = ap (λ x. x * 16 + n / 0x10 % 16) d5 ∙ back (n / 0x100) (n / 0x10) c.0 in
    ap (λ x. x * 16 + n % 16) d6 ∙ back (n / 0x10) n refl

-- the number that an id's digits are
pub id_key : (n : ℕ) → n < 0x100000000 → in_base 16 (digits_of_value n) ≡ n
unfolding in_base
id_key n h = key_digits n h

pub digits_eight : (n : ℕ) → length (digits_of_value n) ≡ 8
unfolding digits_of_value
digits_eight n = refl

pub digits_nibbles : (n : ℕ) → Nibbles (digits_of_value n)
unfolding digits_of_value
digits_nibbles n = omega arith

pub digits_key : (ds : List ℕ) → length ds ≡ 8 → Nibbles ds → digits_of_value (key_from 0 ds) ≡ ds
unfolding in_base
digits_key ds l n = nibbles_back ds l n

-- below 2^32
pub key_small : (ds : List ℕ) → length ds ≡ 8 → Nibbles ds → key_from 0 ds < 0x100000000
key_small ds l n = bounded ds 0 8 l n
  where
    scale : ℕ → ℕ → ℕ
    scale a zero = a
    scale a (suc u) = scale (a * 16) u

    grows : (u a b : ℕ) → a ≤ b → scale a u ≤ scale b u
    grows zero a b h = h
    grows (suc u) a b h = grows u (a * 16) (b * 16) (omega arith)

    bounded : (ds : List ℕ) (a u : ℕ) → length ds ≡ u → Nibbles ds → key_from a ds < scale (a + 1) u
    bounded [] a zero l n = omega arith
    bounded [] a (suc u) l n = absurd (omega arith)
    bounded (d ∷ ds) a zero l n = absurd (omega arith)
    bounded (d ∷ ds) a (suc u) l n =
        let x = bounded ds (a * 16 + d) u (omega arith) n.1 in
        let p = n.0 in
        let y = grows u (a * 16 + d + 1) ((a + 1) * 16) (omega arith) in
        omega arith
