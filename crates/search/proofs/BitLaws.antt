-- Bits of a mark as tests.
use mathlib.Core.Path.{◌≡◌, refl}
use mathlib.Core.Bool.{Bool, true, false, ◌&&◌, ◌||◌, not}
use Prim.Native.Nat.{ℕ, zero, suc, ◌-◌, ◌≤◌}
use native.Mathlib.Omega.{arith}
use lib.Bits.{bit_and, bit_or, bit_xor}
use Rattle.laws.specs.Words.{bit_if}
use Rattle.search.specs.ProgramPacking.{on}

pub data Bit : ℕ → Bool → Type 0 where
  bit0 : Bit 0 false
  bit1 : Bit 1 true

pub bit_of : (x : ℕ) → x ≤ 1 → Bit x (on x)
bit_of zero h = bit0
bit_of (suc zero) h = bit1
bit_of (suc (suc x)) h = absurd (omega arith)

pub bit_if_lem : (b : Bool) → Bit (bit_if b) b
bit_if_lem true = bit1
bit_if_lem false = bit0

pub bit_on : {x : ℕ} {b : Bool} → Bit x b → on x ≡ b
bit_on bit0 = refl
bit_on bit1 = refl

pub bit_is : {x : ℕ} {b : Bool} → Bit x b → x ≡ bit_if b
bit_is bit0 = refl
bit_is bit1 = refl

pub bit_small : {x : ℕ} {b : Bool} → Bit x b → x ≤ 1
bit_small bit0 = omega arith
bit_small bit1 = omega arith

pub bit_and_lem : {x y : ℕ} {a b : Bool} → Bit x a → Bit y b → Bit (bit_and x y) (a && b)
bit_and_lem bit0 bit0 = bit0
bit_and_lem bit0 bit1 = bit0
bit_and_lem bit1 bit0 = bit0
bit_and_lem bit1 bit1 = bit1

pub bit_or_lem : {x y : ℕ} {a b : Bool} → Bit x a → Bit y b → Bit (bit_or x y) (a || b)
bit_or_lem bit0 bit0 = bit0
bit_or_lem bit0 bit1 = bit1
bit_or_lem bit1 bit0 = bit1
bit_or_lem bit1 bit1 = bit1

abbrev pub turned : Bool → Bool → Bool
turned a true = not a
turned a false = a

pub bit_xor_lem : {x y : ℕ} {a b : Bool} → Bit x a → Bit y b → Bit (bit_xor x y) (turned a b)
bit_xor_lem bit0 bit0 = bit0
bit_xor_lem bit0 bit1 = bit1
bit_xor_lem bit1 bit0 = bit1
bit_xor_lem bit1 bit1 = bit0

pub bit_not : {x : ℕ} {a : Bool} → Bit x a → Bit (1 - x) (not a)
bit_not bit0 = bit1
bit_not bit1 = bit0
