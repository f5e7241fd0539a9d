-- Records written in the list's layout.
use Rattle.std.specs.Prelude.{List, [], ◌∷◌, ◌++◌, ℕ, ◌/◌, ◌%◌, ◌<◌, ◌^◌, length}
use Rattle.laws.specs.Words.{Bytes}
use Rattle.list.specs.Layout.{Listed}

-- texts, each after a length byte
unfoldable pub write_texts : List (List ℕ) → List ℕ
write_texts [] = []
write_texts (t ∷ ts) = length t ∷ (t ++ write_texts ts)

-- the rest of a record: primary; version; own baud in four bytes, big-endian; id, manufacturer, medium, fault
unfoldable pub write_rest : Listed → List ℕ
write_rest r =
    r.primary
    ∷ r.version
    ∷ r.baud / 0x1000000 % 256
    ∷ r.baud / 0x10000 % 256
    ∷ r.baud / 0x100 % 256
    ∷ r.baud % 256
    ∷ write_texts (r.id ∷ r.manufacturer ∷ r.medium ∷ r.fault ∷ [])

-- one record after another, each after the length of its rest
unfoldable pub write_records_value : List Listed → List ℕ
write_records_value [] = []
write_records_value (r ∷ rs) = length (write_rest r) ∷ (write_rest r ++ write_records_value rs)

-- byte 0 is version 01; two bytes, big-endian, count all that follows; then records
unfoldable pub write_list_value : List Listed → List ℕ
write_list_value rs = 0x01 ∷ length (write_records_value rs) / 256 ∷ length (write_records_value rs) % 256 ∷ write_records_value rs

-- a record whose parts fit their lengths: the own baud four bytes, its rest one length byte, and each part of it a byte
pub record InLayout (r : Listed) : Type 0 where
  pub baud : r.baud < 2 ^ 32
  pub rest : length (write_rest r) < 256
  pub bytes : Bytes (write_rest r)
