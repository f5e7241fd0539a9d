-- The record of a meter as the program writes it: part after part, each behind those before it.
use Rattle.std.specs.Prelude.{◌≡◌, List, ◌∷◌, ◌++◌, ℕ, ◌+◌, ◌/◌, ◌%◌, ◌≤◌, ◌<◌, length}
use Rattle.list.specs.Layout.{Listed}
use Rattle.list.specs.Written.{write_rest}

-- a text after its length
abbrev pub counted : List ℕ → List ℕ
counted t = length t ∷ t

-- a record's parts of fixed length: primary, version, own baud, and the id after its length
unfoldable pub front_of_value : Listed → List ℕ
front_of_value r = r.primary ∷ r.version ∷ r.baud / 0x1000000 % 256 ∷ r.baud / 0x10000 % 256 ∷ r.baud / 0x100 % 256 ∷ r.baud % 256 ∷ counted r.id

-- these bytes are the rest of a record, after its length byte
pub record IsRest (r : Listed) (rest : List ℕ) : Type 0 where
  pub short : length rest ≤ 45
  pub is : rest ≡ write_rest r

-- behind the bytes old these were written, where n bytes have room for both. Else nothing is written
pub data Appends (n : ℕ) (ws old new : List ℕ) : Type 0 where
  room : length old + length ws ≤ n → new ≡ old ++ ws → Appends n ws old new
  none : n < length old + length ws → new ≡ old → Appends n ws old new
