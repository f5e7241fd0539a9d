-- The program's fresh meter, by the values of a record that passes. That it is 01's fresh meter is proved
-- (proofs/FreshLaws, `fresh-plain`).
use Rattle.std.specs.Prelude.{Bool, false, ℕ, Option, Some, None}
use Rattle.meter.specs.declared.Meter.{Meter}
use Rattle.list_check.specs.declared.Values.{Values}
use Rattle.list_meter.specs.Fresh.{other_than_bus_value, seed_from}

-- the baud of a fresh meter, by its record's own
abbrev pub baud_from : ℕ → Bool → Option ℕ → ℕ
baud_from bus practice None = bus
baud_from bus practice (Some own) = other_than_bus_value bus practice own

-- the program's fresh meter
unfoldable pub fresh_of : ℕ → Bool → Values → Meter
fresh_of bus practice v =
    record {
      built =
          record {
            id = v.id;
            manufacturer = v.manufacturer;
            version = v.version;
            medium = v.medium.code;
            model = v.medium.model;
            fault = v.fault;
            seed = seed_from practice v.number;
          };
      state = record { primary = v.primary; access = 0; selected = false; part = 0; last = None; readouts = 0; hearing = false; baud = baud_from bus practice v.baud };
    }
