-- Worked examples of a meter's bytes.
use mathlib.Core.Path.{◌≡◌, refl}
use mathlib.Core.Bool.{true, false}
use mathlib.Core.List.{List, [], ◌∷◌}
use Prim.Native.Nat.{ℕ}
use Rattle.meter.specs.PlainMeter.{PlainMeter}
use Rattle.numbers.specs.Values.{little}
use Rattle.meter_identity.specs.Identity.{id_bytes_value, digits_of_value}
use Rattle.meter.specs.declared.Fault.TheVariants.{Flaky}
use Rattle.meter.specs.declared.Model.TheVariants.{Water}
use Rattle.std.specs.Prelude.{Some}
use Rattle.segment_image.specs.MeterBytes.{decode_meter, encode_meter}
use Rattle.numbers.specs.Number.{number}

low_byte_first : number 4 1 (0xFF ∷ 0x78 ∷ 0x56 ∷ 0x34 ∷ 0x12 ∷ 0xFF ∷ []) ≡ 0x12345678
unfolding number
low_byte_first = refl

-- a water meter, 12345678 of manufacturer 0x32A7, that misses every second telegram
unfoldable pub a_meter : List ℕ
a_meter =
    7 ∷ 0x78 ∷ 0x56 ∷ 0x34 ∷ 0x12 ∷ 0xA7 ∷ 0x32 ∷ 1 ∷ 7 ∷ 2 ∷ 5 ∷ 9 ∷ 0x60 ∷ 0x09 ∷ 0 ∷ 0 ∷ 1 ∷ 0 ∷ 2 ∷ 3 ∷ 0xD2 ∷ 0x04 ∷ 0 ∷ 0 ∷ 0 ∷ []

unfoldable pub a_meter_is : PlainMeter
a_meter_is =
    record {
      primary = 7;
      digits = 1 ∷ 2 ∷ 3 ∷ 4 ∷ 5 ∷ 6 ∷ 7 ∷ 8 ∷ [];
      manufacturer = 0x32A7;
      version = 1;
      medium = 7;
      model = Water;
      fault = Flaky;
      access = 9;
      baud = 2400;
      selected = true;
      part = 0;
      last = Some true;
      readouts = 3;
      seed = 1234;
      hears_next = false;
    }

meter_of_25_bytes : decode_meter a_meter ≡ a_meter_is
unfolding decode_meter number digits_of_value a_meter a_meter_is
meter_of_25_bytes = refl

bytes_of_a_meter : encode_meter a_meter_is ≡ a_meter
unfolding encode_meter little id_bytes_value a_meter a_meter_is
bytes_of_a_meter = refl
