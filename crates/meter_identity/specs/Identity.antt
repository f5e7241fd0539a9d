-- How ids and manufacturer codes are written into bytes.
use Rattle.std.specs.Prelude.{◌&&◌, List, [], ◌∷◌, ℕ, ◌+◌, ◌-◌, ◌*◌, ◌/◌, ◌%◌, leb, take, if◌then◌else◌}
use Rattle.laws.specs.Words.{at}
use Rattle.std.specs.List.{fold}

-- a small letter as its capital, every other byte as it is
abbrev pub capital : ℕ → ℕ
capital l = if leb 0x61 l && leb l 0x7A then l - 0x20 else l

-- manufacturer_code: five bits to each of the first three letters, A is 1; an empty text gives 0
unfoldable pub manufacturer_code_value : List ℕ → ℕ
manufacturer_code_value ls = go 0 (take 3 ls)
  where
    go : ℕ → List ℕ → ℕ
    go code [] = code
    go code (l ∷ ls) = go (code * 32 + (capital l - 0x40) % 32) ls

-- eight digits (or F), most significant first, as four bytes, low byte first
unfoldable pub id_bytes_value : List ℕ → List ℕ
id_bytes_value ds = (at ds 6 * 16 + at ds 7) ∷ (at ds 4 * 16 + at ds 5) ∷ (at ds 2 * 16 + at ds 3) ∷ (at ds 0 * 16 + at ds 1) ∷ []

-- and back: the eight nibbles of the first four bytes, most significant first
unfoldable pub nibbles : List ℕ → List ℕ
nibbles bs =
    at bs 3 / 16 ∷ at bs 3 % 16 ∷ at bs 2 / 16 ∷ at bs 2 % 16 ∷ at bs 1 / 16 ∷ at bs 1 % 16 ∷ at bs 0 / 16 ∷ at bs 0 % 16 ∷ []

-- digits as a number in a base, most significant first
unfoldable pub in_base : ℕ → List ℕ → ℕ
in_base b ds = fold (λ (n : ℕ) (d : ℕ). n * b + d) 0 ds

-- digits as a decimal number
abbrev pub decimal : List ℕ → ℕ
decimal ds = in_base 10 ds

-- the id's digits are its BCD nibbles, most significant first
unfoldable pub digits_of_value : ℕ → List ℕ
digits_of_value id =
    id / 0x10000000 % 16
    ∷ id / 0x1000000 % 16
    ∷ id / 0x100000 % 16
    ∷ id / 0x10000 % 16
    ∷ id / 0x1000 % 16
    ∷ id / 0x100 % 16
    ∷ id / 0x10 % 16
    ∷ id % 16
    ∷ []
