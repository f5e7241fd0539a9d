-- What holds of telegrams, whatever the bytes.
use Rattle.std.specs.Prelude.{◌≡◌, ℕ, ◌<◌, ◌⊎◌, List, ◌++◌, length, take}
use Rattle.laws.specs.Words.{Bytes}
use Rattle.frame.specs.Frame.{Telegram, Why, complete, incomplete, invalid, parse, encode}

-- A complete telegram is written back to the same bytes that it was read from.
abbrev pub WrittenBack : Type 0
WrittenBack = (bs : List ℕ) (t : Telegram) (n : ℕ) → parse bs ≡ complete t n → encode t ≡ take n bs

-- A written telegram, with any bytes after it, is parsed to itself and uses exactly its bytes.
abbrev pub ParsedToItself : Type 0
ParsedToItself = (t : Telegram) (rest : List ℕ) → parse (encode t ++ rest) ≡ complete t (length (encode t))

abbrev pub Complete : List ℕ → Type 0
Complete bs = (t : Telegram) × ((n : ℕ) × (parse bs ≡ complete t n))

abbrev pub Incomplete : List ℕ → Type 0
Incomplete bs = (n : ℕ) × (parse bs ≡ incomplete n)

abbrev pub Invalid : List ℕ → Type 0
Invalid bs = (w : Why) × (parse bs ≡ invalid w)

-- Every list of bytes is complete, incomplete or invalid,
abbrev pub OneOfThree : Type 0
OneOfThree = (bs : List ℕ) → Complete bs ⊎ (Incomplete bs ⊎ Invalid bs)

-- and no two of these.
abbrev pub NoTwo : Type 0
NoTwo = (bs : List ℕ) → ((Complete bs → Incomplete bs → ⊥) × (Complete bs → Invalid bs → ⊥) × (Incomplete bs → Invalid bs → ⊥))

-- A longer input never changes a complete answer,
abbrev pub KeepsComplete : Type 0
KeepsComplete = (bs more : List ℕ) (t : Telegram) (n : ℕ) → parse bs ≡ complete t n → parse (bs ++ more) ≡ complete t n

-- nor an invalid one.
abbrev pub KeepsInvalid : Type 0
KeepsInvalid = (bs more : List ℕ) (w : Why) → parse bs ≡ invalid w → parse (bs ++ more) ≡ invalid w

-- Req 01: the number that an incomplete telegram carries is "the least number of further bytes after which it could be
-- other than incomplete": with fewer further bytes, whatever they are, it is incomplete still; with exactly so many,
-- some make it other than that.
abbrev pub DueIsLeast : Type 0
DueIsLeast = (bs : List ℕ) (n : ℕ) → parse bs ≡ incomplete n
    → ((more : List ℕ) → length more < n → Incomplete (bs ++ more)) × ((more : List ℕ) × (length more ≡ n) × Bytes more × (Incomplete (bs ++ more) → ⊥))
