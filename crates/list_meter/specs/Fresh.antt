-- The meter of a record, as an opening begins with it.
use Rattle.std.specs.Prelude.{Bool, false, None, ◌&&◌, List, ℕ, ◌*◌, ◌%◌, eqb, if◌then◌else◌}
use Rattle.meter_identity.specs.Identity.{manufacturer_code_value, decimal}
use Rattle.meter.specs.PlainMeter.{PlainMeter}
use Rattle.list_check.specs.Tables.{media, faults, medium_of, fault_of}
use Rattle.list.specs.Layout.{Listed}
use Rattle.list_check.specs.Check.{text_digits}

-- "with it, .. an own baud equal to the bus baud becomes 2400"
unfoldable pub other_than_bus_value : ℕ → Bool → ℕ → ℕ
other_than_bus_value bus practice own = if practice && eqb own bus then 2400 else own

-- own baud: "0 = the bus's at opening"
unfoldable pub own_baud_value : ℕ → Bool → ℕ → ℕ
own_baud_value bus practice own = if eqb own 0 then bus else other_than_bus_value bus practice own

-- "Without the flag, seed = (id as a decimal number mod 997) × 53; with it, seed 0"
abbrev pub seed_from : Bool → (id : ℕ) → ℕ
seed_from practice id = if practice then 0 else id % 997 * 53

unfoldable pub seed_of_value : Bool → List ℕ → ℕ
seed_of_value practice digits = seed_from practice (decimal digits)

-- "A fresh meter: access 0, not selected, part 0, no last FCB (the alternation bit, 20), readouts 0, and a flaky one
-- misses its first telegram."
unfoldable pub fresh : ℕ → Bool → Listed → PlainMeter
fresh bus practice r =
    record {
      primary = r.primary;
      digits = text_digits r.id;
      manufacturer = manufacturer_code_value r.manufacturer;
      version = r.version;
      medium = (medium_of media r.medium).code;
      model = (medium_of media r.medium).model;
      fault = fault_of faults r.fault;
      access = 0;
      baud = own_baud_value bus practice r.baud;
      selected = false;
      part = 0;
      last = None;
      readouts = 0;
      seed = seed_of_value practice (text_digits r.id);
      hears_next = false;
    }
