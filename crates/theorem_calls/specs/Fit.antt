-- The arguments of the calls are values of their types: bytes, u32, f64, and slices that have room in memory.
use Rattle.std.specs.Prelude.{◌≡◌, true, List, ℕ, ◌<◌, ◌*◌, ◌^◌, Float, length}
use Rattle.std.specs.Float.{binary64}
use Rattle.std.specs.Float.Ieee.{fits}
use Rattle.laws.specs.Words.{Every}
use Rattle.time_clock.specs.declared.Clock.{Clock}
use Rattle.search.specs.declared.EntryRecord.{EntryRecord}
use Rattle.segment_image.specs.Image.{image_len}
use Rattle.theorem_calls.specs.Call.{Call, opening, sending, receiving, clearing, changing, searching, searching_into}

abbrev pub Byte : ℕ → Type 0
Byte b = b < 256

abbrev pub Word : ℕ → Type 0
Word n = n < 2 ^ 32

abbrev pub Double : Float → Type 0
Double x = fits binary64 x ≡ true

-- so many elements of so many bytes each: the count is below 2^64, the bytes are below 2^63
abbrev pub Room : ℕ → ℕ → Type 0
Room count each = (count < 2 ^ 64) × (count * each < 2 ^ 63)

abbrev pub LentBytes : List ℕ → Type 0
LentBytes bs = Every Byte bs × Room (length bs) 1

-- an array of n bytes
abbrev pub FitArray : ℕ → List ℕ → Type 0
FitArray n bs = Every Byte bs × (length bs ≡ n)

abbrev pub FitImage : List ℕ → Type 0
FitImage bs = FitArray image_len bs

abbrev pub FitClock : Clock → Type 0
FitClock k = Double k.now × (Word k.year × (Word k.month × (Word k.day × (Word k.hour × Word k.minute))))

-- eight digits, each a byte, and a count; a record takes 16 bytes
abbrev pub FitRecord : EntryRecord → Type 0
FitRecord e = (length e.digits ≡ 8) × (Every Byte e.digits × Word e.count)

abbrev pub Records : List EntryRecord → Type 0
Records es = Every FitRecord es × Room (length es) 16

abbrev pub FitCall : Call → Type 0
FitCall (opening list bus practice origin) = LentBytes list × (Word bus × Double origin)
FitCall (sending piece k) = LentBytes piece × FitClock k
FitCall (receiving lent) = LentBytes lent
FitCall clearing = Unit {0}
FitCall (changing baud) = Word baud
FitCall (searching k allowance entries summary) = FitClock k × (Word allowance × (LentBytes entries × FitArray 12 summary))
FitCall (searching_into k allowance lent) = FitClock k × (Word allowance × Records lent)
