-- The manufacturer's code by the number of letters, and an id's bytes and digits.
use mathlib.Core.Path.{◌≡◌, refl, ap₂}
use mathlib.Core.List.{List, [], ◌∷◌, ◌++◌}
use Prim.Native.Nat.{ℕ, ◌+◌, ◌-◌, ◌*◌, ◌/◌, ◌%◌, ◌≤◌, ◌<◌}
use native.Mathlib.Omega.{arith}
use lib.ListN.{length, get_or}
use Rattle.std.proofs.lemmas.Nat.{div-mul-add, mod-mul-add}
use Rattle.laws.proofs.Lists.{of_eight}
use Rattle.laws.specs.Words.{Every}
use Rattle.numbers.specs.Values.{little}
use Rattle.numbers.proofs.ValueLaws.{little_four}
use Rattle.meter_identity.specs.Identity.{capital, manufacturer_code_value, id_bytes_value, nibbles, in_base, digits_of_value}

-- ---- the manufacturer's code by the number of letters

abbrev five : ℕ → ℕ
five l = (capital l - 0x40) % 32

pub code-none : (ls : List ℕ) → length ls ≡ 0 → 0 ≡ manufacturer_code_value ls
unfolding manufacturer_code_value
code-none [] e = refl
code-none (a ∷ ls) e = absurd (omega arith)

pub code_one : {a : ℕ} (ls : List ℕ) → a ≡ five (get_or ls 0 0) → length ls ≡ 1 → a ≡ manufacturer_code_value ls
unfolding manufacturer_code_value
code_one [] p e = absurd (omega arith)
code_one (k ∷ []) p e = omega arith
code_one (k ∷ l ∷ ls) p e = absurd (omega arith)

pub code_two : {a b : ℕ} (ls : List ℕ) → a ≡ five (get_or ls 0 0) → b ≡ five (get_or ls 1 0) → length ls ≡ 2 → a * 32 + b ≡ manufacturer_code_value ls
unfolding manufacturer_code_value
code_two [] p q e = absurd (omega arith)
code_two (k ∷ []) p q e = absurd (omega arith)
code_two (k ∷ l ∷ []) p q e = omega arith
code_two (k ∷ l ∷ m ∷ ls) p q e = absurd (omega arith)

pub code_three : {a b c : ℕ} (ls : List ℕ) → a ≡ five (get_or ls 0 0) → b ≡ five (get_or ls 1 0) → c ≡ five (get_or ls 2 0) → 3 ≤ length ls → (a * 32 + b) * 32 + c ≡ manufacturer_code_value ls
unfolding manufacturer_code_value
code_three [] p q r e = absurd (omega arith)
code_three (k ∷ []) p q r e = absurd (omega arith)
code_three (k ∷ l ∷ []) p q r e = absurd (omega arith)
code_three (k ∷ l ∷ m ∷ ls) p q r e = omega arith

-- ---- ids

pub nibbles_id : (ds rest : List ℕ) → length ds ≡ 8 → Every (λ d. d < 16) ds → nibbles (id_bytes_value ds ++ rest) ≡ ds
unfolding id_bytes_value nibbles
nibbles_id [] rest e h = absurd (omega arith)
nibbles_id (a ∷ []) rest e h = absurd (omega arith)
nibbles_id (a ∷ b ∷ []) rest e h = absurd (omega arith)
nibbles_id (a ∷ b ∷ c ∷ []) rest e h = absurd (omega arith)
nibbles_id (a ∷ b ∷ c ∷ d ∷ []) rest e h = absurd (omega arith)
nibbles_id (a ∷ b ∷ c ∷ d ∷ f ∷ []) rest e h = absurd (omega arith)
nibbles_id (a ∷ b ∷ c ∷ d ∷ f ∷ g ∷ []) rest e h = absurd (omega arith)
nibbles_id (a ∷ b ∷ c ∷ d ∷ f ∷ g ∷ i ∷ []) rest e h = absurd (omega arith)
nibbles_id (a ∷ b ∷ c ∷ d ∷ f ∷ g ∷ i ∷ j ∷ k ∷ ds) rest e h = absurd (omega arith)
nibbles_id (a ∷ b ∷ c ∷ d ∷ f ∷ g ∷ i ∷ j ∷ []) rest e h =
    rw (
      div-mul-add a 16 b h.1.0,
      mod-mul-add a 16 b h.1.0,
      div-mul-add c 16 d h.1.1.1.0,
      mod-mul-add c 16 d h.1.1.1.0,
      div-mul-add f 16 g h.1.1.1.1.1.0,
      mod-mul-add f 16 g h.1.1.1.1.1.0,
      div-mul-add i 16 j h.1.1.1.1.1.1.1.0,
      mod-mul-add i 16 j h.1.1.1.1.1.1.1.0,
    )

-- the id's nibbles, two to a byte, are its bytes
pub id_little : (id : ℕ) → id_bytes_value (digits_of_value id) ≡ little 4 id
unfolding id_bytes_value digits_of_value
id_little id =
    rw (little_four id, joined id (id / 0x10) (omega arith), joined (id / 0x100) (id / 0x1000) (omega arith), joined (id / 0x10000) (id / 0x100000) (omega arith), joined (id / 0x1000000) (id / 0x10000000) (omega arith))
  where
    joined : (x y : ℕ) → y ≡ x / 16 → y % 16 * 16 + x % 16 ≡ x % 256
    joined x y e = omega arith

pub list_same : {x y : ℕ} {xs ys : List ℕ} → x ≡ y → xs ≡ ys → x ∷ xs ≡ y ∷ ys
list_same p q = ap₂ (λ x xs. x ∷ xs) p q

-- eight nibbles, taken out of their number again
pub nibbles_back : (ds : List ℕ) → length ds ≡ 8 → Every (λ d. d < 16) ds → digits_of_value (in_base 16 ds) ≡ ds
unfolding digits_of_value in_base
nibbles_back ds l e = of_eight (λ ds. Every (λ d. d < 16) ds → digits_of_value (in_base 16 ds) ≡ ds)
    (λ a b c d e f g h k.
    list_same (omega arith) (list_same (omega arith) (list_same (omega arith) (list_same (omega arith) (list_same (omega arith) (list_same (omega arith) (list_same (omega arith) (list_same (omega arith) refl))))))))
    ds l e
