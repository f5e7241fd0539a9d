-- How the program's search packs the meters, and what a meter and an entry are that are packed. The words are the
-- program's:
-- that the packed search finds what 01's finds is proved (proofs/PackedWalk).
use Rattle.std.specs.Prelude.{◌≡◌, Option, Some, None as no_fcb, Bool, true, false, List, ◌++◌, map, ℕ, zero, suc, ◌+◌, ◌*◌, ◌/◌, ◌%◌, ◌<◌, eqb, length, drop, replicate, if◌then◌else◌}
use Rattle.laws.specs.Words.{bit_if}
use Rattle.meter_identity.specs.Identity.{in_base, digits_of_value}
use Rattle.meter.specs.PlainMeter.{PlainMeter}
use Rattle.meter.specs.Meter.{with, reached}
use Rattle.meter.specs.declared.Fault.{Fault}
use Rattle.meter.specs.declared.Fault.TheVariants.{None, Checksum, Truncated, Busy, WrongAddress, Flaky, TooMany}
use Rattle.list_open.specs.Opening.{capacity}
use Rattle.segment.specs.Plain.{Plain, with_meters}
use Rattle.search_packed.specs.ProgramBits.{FRESH, HEARS, CLEAR, STEADY, FLAKY, FAILS, TOO_MANY, READOUTS, ACCESS}
use Rattle.search_packed.specs.ProgramMarks.{swept_by}
use Rattle.search.specs.declared.EntryRecord.{EntryRecord}
use Rattle.search.specs.declared.Kind.{Kind}
use Rattle.search.specs.declared.Kind.TheVariants.{One, Mute, Many}

-- ---- a meter's mark

-- the places of a mark that a fault sets
abbrev pub fault_bits_value : Fault → ℕ
fault_bits_value None = STEADY
fault_bits_value Checksum = STEADY + FAILS
fault_bits_value Truncated = STEADY + FAILS
fault_bits_value Busy = STEADY + FAILS
fault_bits_value WrongAddress = STEADY
fault_bits_value Flaky = FLAKY
fault_bits_value TooMany = STEADY + TOO_MANY

-- the mark with which a search begins
unfoldable pub mark_of_value : ℕ → PlainMeter → ℕ
mark_of_value bus m =
    if eqb m.baud bus then bit_if m.selected + bit_if m.hears_next * HEARS + fault_bits_value m.fault + m.readouts * READOUTS + m.access * ACCESS
    else 0

-- a meter's key: its id as a number
abbrev pub key_of_value : PlainMeter → ℕ
key_of_value m = in_base 16 m.digits

-- numbers of the meters, 0 past them
unfoldable pub packed : (PlainMeter → ℕ) → List PlainMeter → List ℕ
packed f ms = map f ms ++ drop (length ms) (replicate capacity 0)

-- what the program's types say of a meter
pub record Bounded (m : PlainMeter) : Type 0 where
  pub key : key_of_value m < 0x100000000
  pub digits : m.digits ≡ digits_of_value (key_of_value m)
  pub access : m.access < 256
  pub readouts : m.readouts < 256

-- ---- a meter as its mark has it

-- a bit is set
abbrev pub on : ℕ → Bool
on x = eqb x 1

-- the part and the last FCB that a mark leaves: by whether the last FCB is clear, and whether a select reset them
abbrev pub part_in_value : Bool → Bool → ℕ → ℕ
part_in_value true fresh p = 0
part_in_value false true p = 0
part_in_value false false p = p

abbrev pub last_in_value : Bool → Bool → Option Bool → Option Bool
last_in_value true fresh l = Some false
last_in_value false true l = no_fcb
last_in_value false false l = l

-- selected, reset, hears next, last FCB clear, access number, readouts
abbrev pub stand : PlainMeter → Bool → Bool → Bool → Bool → ℕ → ℕ → PlainMeter
stand m selected fresh hears clear access readouts =
    with m (reached m) selected (part_in_value clear fresh m.part, last_in_value clear fresh m.last) (access, readouts) hears

-- a meter at bus baud, as its mark has it
unfoldable pub as_marked : PlainMeter → ℕ → PlainMeter
as_marked m s = stand m (on (s % 2)) (on (s / FRESH % 2)) (on (s / HEARS % 2)) (on (s / CLEAR % 2)) (s / ACCESS % 256) (s / READOUTS % 256)

-- a meter at another baud is left as it was
unfoldable pub seen_as : ℕ → PlainMeter → ℕ → PlainMeter
seen_as bus m s = if eqb m.baud bus then as_marked m s else m

abbrev pub seen_by : ℕ → ℕ → PlainMeter → PlainMeter
seen_by bus s m = seen_as bus m s

-- a segment whose meters are as their marks have them
abbrev pub unmarked : List ℕ → Plain → Plain
unmarked marks s = with_meters (swept_by (seen_by s.baud) (length s.meters) marks s.meters) s

-- ---- an entry

-- by the number in front of its id or mask: 0 a mute, 1 one, else many
abbrev pub kind_in : ℕ → Kind
kind_in zero = Mute
kind_in (suc zero) = One
kind_in (suc (suc n)) = Many

-- the E5 counted
abbrev pub count_in : ℕ → ℕ
count_in zero = 1
count_in (suc n) = suc n

-- the caller's record of it
unfoldable pub record_in : ℕ → EntryRecord
record_in e = record { kind = kind_in (e / 0x100000000); digits = digits_of_value (e % 0x100000000); count = count_in (e / 0x100000000) }
