-- The layout as the program reads it: what stands first in some bytes of records, and the bytes behind it. That these
-- steps, one after another, give 01's records is proved (proofs/Steps, `steps_are_records`).
use Rattle.std.specs.Prelude.{◌≡◌, ◌||◌, not, List, [], ◌∷◌, ℕ, ◌+◌, ◌-◌, ◌*◌, eqb, leb, ltb, length, take, drop, if◌then◌else◌, Option, Some, None, Result, Ok, Err}
use Rattle.std.specs.Borrow.{Bor}
use Rattle.laws.specs.Words.{at}
use Rattle.list.specs.Layout.{Listed, Texts, texts, no_texts, read_texts, record_with, Layout, fits, no_fit, read_records}
use Rattle.list.specs.declared.Listed.{Listed as Lent}
use Rattle.list.specs.declared.LayoutError.{LayoutError}
use Rattle.list.specs.declared.LayoutError.TheVariants.{Unversioned, Unfit}

-- ---- the program's record

-- the record of the list that the program's record stands for
abbrev pub listed_of : Lent → Listed
listed_of r =
    record {
      primary = r.primary;
      version = r.version;
      baud = r.baud;
      id = r.id.now;
      manufacturer = r.manufacturer.now;
      medium = r.medium.now;
      fault = r.fault.now;
    }

-- ---- a text

-- the text after its length byte, and the bytes behind it, if it fits
abbrev pub split_text_value : List ℕ → Option (List ℕ × List ℕ)
split_text_value [] = None
split_text_value (l ∷ bs) = if leb l (length bs) then Some (take l bs, drop l bs) else None

-- the same of the program's slices
abbrev pub split_texts : Option (Bor (List ℕ) × Bor (List ℕ)) → Option (List ℕ × List ℕ)
split_texts None = None
split_texts (Some p) = Some (p.0.now, p.1.now)

-- ---- a record

-- four texts, one after another, which fill the record exactly
abbrev pub with_texts : List ℕ → Texts → Option Listed
with_texts bs no_texts = None
with_texts bs (texts ts) = Some (record_with bs ts)

-- a record's bytes after its length byte: at least the six bytes before the texts
unfoldable pub record_value : List ℕ → Option Listed
record_value bs = if leb 6 (length bs) then with_texts bs (read_texts 4 (drop 6 bs)) else None

abbrev pub record_given : Option Lent → Option Listed
record_given None = None
record_given (Some r) = Some (listed_of r)

-- a record before some bytes
abbrev pub before : Option Listed → List ℕ → Option (Listed × List ℕ)
before None rest = None
before (Some r) rest = Some (r, rest)

abbrev pub record_split : Option (List ℕ × List ℕ) → Option (Listed × List ℕ)
record_split None = None
record_split (Some p) = before (record_value p.0) p.1

-- the record that stands first, its first byte the length of its rest, and the bytes behind it, if it fits
unfoldable pub split_record_value : List ℕ → Option (Listed × List ℕ)
split_record_value bs = record_split (split_text_value bs)

abbrev pub split_records : Option (Lent × Bor (List ℕ)) → Option (Listed × List ℕ)
split_records None = None
split_records (Some p) = Some (listed_of p.0, p.1.now)

-- ---- the reader

-- what stands first: a record and the bytes behind it, bytes that are no record, or nothing
pub data Step : Type 0 where
  one : Listed → List ℕ → Step
  bad : Step
  end : Step

abbrev pub step_of : Option (Listed × List ℕ) → Step
step_of None = bad
step_of (Some p) = one p.0 p.1

abbrev pub step : List ℕ → Step
step [] = end
step (l ∷ bs) = step_of (split_record_value (l ∷ bs))

-- what the reader answers
abbrev pub answered : Step → Result (Option Listed) LayoutError
answered (one r rest) = Ok (Some r)
answered bad = Err Unfit
answered end = Ok None

-- the bytes that are left after it: at bytes that are no record the reader stays
abbrev pub left : List ℕ → Step → List ℕ
left bs (one r rest) = rest
left bs bad = bs
left bs end = bs

abbrev pub given : Result (Option Lent) LayoutError → Result (Option Listed) LayoutError
given (Err e) = Err e
given (Ok None) = Ok None
given (Ok (Some r)) = Ok (Some (listed_of r))

-- a reader over bs answers this, and is one over rest then
pub record Reads (bs : List ℕ) (answer : Result (Option Lent) LayoutError) (rest : List ℕ) : Type 0 where
  pub is : given answer ≡ answered (step bs)
  pub rest_is : rest ≡ left bs (step bs)

-- ---- the whole list

-- how many records, or that a length does not fit
abbrev pub count_of : Layout → Result ℕ LayoutError
count_of no_fit = Err Unfit
count_of (fits rs) = Ok (length rs)

-- byte 0 is version 01; two bytes, big-endian, count all that follows; then records
unfoldable pub layout_value : List ℕ → Result ℕ LayoutError
layout_value bs =
    if ltb (length bs) 3 || not (eqb (at bs 0) 1) then Err Unversioned else
    if not (eqb (at bs 1 * 256 + at bs 2) (length bs - 3)) then Err Unfit else
    count_of (read_records (length bs) (drop 3 bs))
