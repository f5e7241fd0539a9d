-- The program's meter in the terms of the definitions.
use Rattle.meter_identity.specs.Identity.{digits_of_value}
use Rattle.std.specs.Prelude.{false, None as no_fcb}
use Rattle.meter.specs.declared.Fault.TheVariants.{None}
use Rattle.meter.specs.declared.Model.TheVariants.{Heat}
use Rattle.meter.specs.declared.Meter.{Meter}
use Rattle.meter.specs.PlainMeter.{PlainMeter}

abbrev pub plain_meter : Meter → PlainMeter
plain_meter m =
    record {
      primary = m.state.primary;
      digits = digits_of_value m.built.id;
      manufacturer = m.built.manufacturer;
      version = m.built.version;
      medium = m.built.medium;
      model = m.built.model;
      fault = m.built.fault;
      access = m.state.access;
      baud = m.state.baud;
      selected = m.state.selected;
      part = m.state.part;
      last = m.state.last;
      readouts = m.state.readouts;
      seed = m.built.seed;
      hears_next = m.state.hearing;
    }

-- what stands where there is no meter
unfoldable pub blank_meter_value : Meter
blank_meter_value =
    record {
      built = record { id = 0; manufacturer = 0; version = 0; medium = 0; model = Heat; fault = None; seed = 0 };
      state = record { primary = 0; access = 0; selected = false; part = 0; last = no_fcb; readouts = 0; hearing = false; baud = 0 };
    }
