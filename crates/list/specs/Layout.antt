-- The meter list's byte layout, read: "A record: one byte, the length of its rest; primary; version; own baud in four
-- bytes big-endian, 0 = the bus's at opening;
-- four texts, each after a length byte: id, manufacturer, medium, fault. The parts fill each length exactly."
use Rattle.std.specs.Prelude.{◌&&◌, List, [], ◌∷◌, ℕ, zero, suc, ◌+◌, ◌*◌, leb, length, take, drop, get_or, if◌then◌else◌}
use Rattle.laws.specs.Words.{at}

-- a record of the list: one meter
pub record Listed : Type 0 where
  pub primary : ℕ
  pub version : ℕ
  pub baud : ℕ
  pub id : List ℕ
  pub manufacturer : List ℕ
  pub medium : List ℕ
  pub fault : List ℕ

-- texts; or a length does not fit
pub data Texts : Type 0 where
  texts : List (List ℕ) → Texts
  no_texts : Texts

-- a text before others
abbrev pub first_text : List ℕ → Texts → Texts
first_text t (texts ts) = texts (t ∷ ts)
first_text t no_texts = no_texts

-- "four texts, each after a length byte", n here: after the last no byte is left
unfoldable pub read_texts : ℕ → List ℕ → Texts
read_texts zero [] = texts []
read_texts zero (b ∷ bs) = no_texts
read_texts (suc n) [] = no_texts
read_texts (suc n) (l ∷ bs) = if leb l (length bs) then first_text (take l bs) (read_texts n (drop l bs)) else no_texts

-- the records of a list; or a length does not fit
pub data Layout : Type 0 where
  fits : List Listed → Layout
  no_fit : Layout

-- the record of its bytes after its length byte, and of its texts (from byte 6 on)
abbrev pub record_with : List ℕ → List (List ℕ) → Listed
record_with bs ts =
    record {
      primary = at bs 0;
      version = at bs 1;
      baud = ((at bs 2 * 256 + at bs 3) * 256 + at bs 4) * 256 + at bs 5;
      id = get_or ts 0 [];
      manufacturer = get_or ts 1 [];
      medium = get_or ts 2 [];
      fault = get_or ts 3 [];
    }

-- a record's bytes, its texts, and the records that follow it
abbrev pub made : List ℕ → Texts → Layout → Layout
made bs no_texts more = no_fit
made bs (texts ts) no_fit = no_fit
made bs (texts ts) (fits rs) = fits (record_with bs ts ∷ rs)

-- one record after another. Each has one byte, the length of its rest, which holds at least the six bytes before the
-- texts.
-- n bounds the number of records: the number of bytes is enough
unfoldable pub read_records : ℕ → List ℕ → Layout
read_records zero [] = fits []
read_records zero (l ∷ bs) = no_fit
read_records (suc n) [] = fits []
read_records (suc n) (l ∷ bs) =
    if leb 6 l && leb l (length bs) then made (take l bs) (read_texts 4 (drop 6 (take l bs))) (read_records n (drop l bs)) else no_fit
