-- A meter that is asked for its readout (01, "A lone meter is read"): which part it sends, and what it counts.
use Rattle.std.specs.Prelude.{Option, Some, None as no_fcb, ℕ, ◌+◌, ◌%◌, min, Bool, true, false}
use Rattle.meter.specs.PlainMeter.{PlainMeter}
use Rattle.meter.specs.Meter.{with, reached}
use Rattle.meter.specs.declared.Fault.{Fault}
use Rattle.meter.specs.declared.Fault.TheVariants.{None, Checksum, Truncated, Busy, WrongAddress, Flaky, TooMany}
use Rattle.meter.specs.declared.Model.{Model}
use Rattle.meter.specs.declared.Model.TheVariants.{Heat, Electricity, Water, Fixed}

-- "Heat has two": how many parts a readout has
abbrev pub parts : Model → ℕ
parts Heat = 2
parts Electricity = 1
parts Water = 1
parts Fixed = 1

abbrev pub next_part_value : Model → ℕ → ℕ
next_part_value model part = (part + 1) % parts model

-- "No last FCB: part 0; changed: next part (Heat has two); equal: same part, built afresh."
abbrev pub part_now_value : Model → Option Bool → Bool → ℕ → ℕ
part_now_value model no_fcb fcb part = 0
part_now_value model (Some false) false part = part
part_now_value model (Some false) true part = next_part_value model part
part_now_value model (Some true) false part = next_part_value model part
part_now_value model (Some true) true part = part

-- the FCB of the request is the last one from now on
abbrev pub fcb_now_value : Bool → Option Bool
fcb_now_value fcb = Some fcb

-- "the third and later readouts since opening": a too_many meter counts. "The readout count stops at 3"
abbrev pub readouts_now_value : Fault → ℕ → ℕ
readouts_now_value None n = n
readouts_now_value Checksum n = n
readouts_now_value Truncated n = n
readouts_now_value Busy n = n
readouts_now_value WrongAddress n = n
readouts_now_value Flaky n = n
readouts_now_value TooMany n = min 3 (n + 1)

-- the meter that answers a REQ_UD2: part and last FCB. "Then comes, raised by one, an access number that goes from
-- 255 back to 0"; its readouts
unfoldable pub asked : Bool → PlainMeter → PlainMeter
asked fcb m =
    with m (reached m) m.selected
    (part_now_value m.model m.last fcb m.part, fcb_now_value fcb)
    ((m.access + 1) % 256, readouts_now_value m.fault m.readouts)
    m.hears_next
