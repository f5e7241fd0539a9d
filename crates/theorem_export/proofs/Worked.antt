-- A built-in list opened and exported again is itself; smallest exports of each answer.
use mathlib.Core.Path.{◌≡◌, refl}
use mathlib.Core.Bool.{false}
use mathlib.Core.List.{[], ◌∷◌}
use Prim.Native.Nat.{ℕ}
use lib.ListN.{replicate}
use Rattle.laws.specs.Ascii.{ascii}
use Rattle.list.specs.Layout.{read_texts, read_records}
use Rattle.list.specs.Written.{write_texts, write_rest, write_records_value, write_list_value}
use Rattle.time_seconds.specs.Seconds.{zero_seconds}
use Rattle.meter.specs.Meter.{rates}
use Rattle.meter_identity.specs.Identity.{manufacturer_code_value}
use Rattle.list_check.specs.Tables.{media, faults}
use Rattle.list_check.specs.Check.{good_id_value, good_manufacturer_value, check}
use Rattle.list_builtin.specs.Builtins.{praxis, id_text}
use Rattle.list_meter.specs.Fresh.{other_than_bus_value, own_baud_value, fresh}
use Rattle.list_open.specs.Opening.{capacity, open_records, open_list_value}
use Rattle.list_write.specs.Record.{listed_baud, capitals, manufacturer_text, record_for}
use Rattle.segment.specs.Plain.{Plain, blank}
use Rattle.segment.specs.Calls.{after_opening}
use Rattle.segment_export.specs.Export.{list_of, export_into_value}

-- praxis: every fault, other rates, a heat_old without manufacturer
pub praxis_back : list_of (after_opening praxis 2400 false zero_seconds blank) ≡ praxis
unfolding after_opening list_of record_for listed_baud manufacturer_text capitals manufacturer_code_value praxis id_text write_list_value write_records_value write_rest write_texts open_list_value open_records read_records read_texts check good_id_value good_manufacturer_value media faults rates capacity fresh own_baud_value other_than_bus_value
praxis_back = refl

-- a water meter of KAM with this primary, alone on a bus at 2400
unfoldable pub alone : ℕ → Plain
alone primary =
    record {
      baud = 2400;
      origin = zero_seconds;
      input = [];
      queue = [];
      meters = fresh 2400 false (record { primary = primary; version = 1; baud = 0; id = ascii "12345678"; manufacturer = ascii "KAM"; medium = ascii "water"; fault = ascii "none" }) ∷ [];
    }

-- 18, though no byte is lent
pub refused_18 : (export_into_value [] (alone 251)).number ≡ 18
unfolding alone export_into_value fresh
refused_18 = refl

-- 12: 34 bytes are needed
pub refused_12 : (export_into_value (replicate 33 0) (alone 250)).number ≡ 12
unfolding alone export_into_value list_of record_for listed_baud manufacturer_text capitals manufacturer_code_value write_list_value write_records_value write_rest write_texts media faults fresh own_baud_value other_than_bus_value
refused_12 = refl

-- 34 bytes are written, and two stay
pub exported_34 : export_into_value (replicate 36 0x55) (alone 250) ≡ record {
  number = 0;
  count = 34;
  lent = 0x01 ∷ 0x00 ∷ 0x1F ∷ 0x1E ∷ 0xFA ∷ 0x01 ∷ 0 ∷ 0 ∷ 0 ∷ 0 ∷ 0x08 ∷ 0x31 ∷ 0x32 ∷ 0x33 ∷ 0x34 ∷ 0x35 ∷ 0x36 ∷ 0x37 ∷ 0x38 ∷ 0x03 ∷ 0x4B ∷ 0x41 ∷ 0x4D ∷ 0x05 ∷ 0x77 ∷ 0x61 ∷ 0x74 ∷ 0x65 ∷ 0x72 ∷ 0x04 ∷ 0x6E ∷ 0x6F ∷ 0x6E ∷ 0x65 ∷ 0x55 ∷ 0x55 ∷ [];
}
unfolding alone export_into_value list_of record_for listed_baud manufacturer_text capitals manufacturer_code_value write_list_value write_records_value write_rest write_texts media faults fresh own_baud_value other_than_bus_value
exported_34 = refl
