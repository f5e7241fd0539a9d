-- The record of a meter in a list (Req 04): "Write one in 01's layout from the present meters, .., own baud 0 where it
-- equals the bus baud, id in eight digits, manufacturer in capitals." Every meter has one, whatever its parts.
use Rattle.std.specs.Prelude.{Bool, ◌&&◌, List, [], ◌∷◌, map, ℕ, ◌+◌, ◌/◌, ◌%◌, eqb, if◌then◌else◌}
use Rattle.meter.specs.PlainMeter.{PlainMeter}
use Rattle.meter.specs.declared.Fault.{Fault}
use Rattle.meter.specs.declared.Fault.TheVariants.{None, Checksum, Truncated, Busy, WrongAddress, Flaky, TooMany}
use Rattle.meter.specs.declared.Model.{Model}
use Rattle.meter.specs.declared.Model.TheVariants.{Heat, Electricity, Water, Fixed}
use Rattle.list.specs.Layout.{Listed}
use Rattle.list_check.specs.Tables.{Medium, media, medium_heat_old, fault_none, fault_checksum, fault_truncated, fault_busy, fault_wrong_address, fault_flaky, fault_too_many}

-- "own baud 0 where it equals the bus baud"
unfoldable pub listed_baud : ℕ → ℕ → ℕ
listed_baud bus baud = if eqb baud bus then 0 else baud

-- "id in eight digits": each digit as the character 30 + the digit
abbrev pub digit_text : List ℕ → List ℕ
digit_text ds = map (λ d. 0x30 + d) ds

-- a number for each model, no two alike
abbrev pub model_number_value : Model → ℕ
model_number_value Heat = 0
model_number_value Electricity = 1
model_number_value Water = 2
model_number_value Fixed = 3

abbrev pub same_model_value : Model → Model → Bool
same_model_value a b = eqb (model_number_value a) (model_number_value b)

-- the code and the model are those of a row of MEDIA
abbrev pub is_of_medium : ℕ → Model → Medium → Bool
is_of_medium code model r = eqb r.code code && same_model_value r.model model

-- "manufacturer in capitals": five bits of the code to each of three letters, A is 1
unfoldable pub capitals : ℕ → List ℕ
capitals code = (0x40 + code / 1024 % 32) ∷ (0x40 + code / 32 % 32) ∷ (0x40 + code % 32) ∷ []

-- an empty text for a heat_old with the code 0: "An empty manufacturer passes only for heat_old"
unfoldable pub manufacturer_text : (code : ℕ) → (medium : ℕ) → Model → List ℕ
manufacturer_text code medium model = if eqb code 0 && is_of_medium medium model medium_heat_old then [] else capitals code

-- the key of the first row of MEDIA with this code and this model; an empty text where there is none
abbrev pub medium_text : List Medium → ℕ → Model → List ℕ
medium_text [] code model = []
medium_text (r ∷ rs) code model = if is_of_medium code model r then r.key else medium_text rs code model

-- the key of a fault
abbrev pub fault_text : Fault → List ℕ
fault_text None = fault_none.key
fault_text Checksum = fault_checksum.key
fault_text Truncated = fault_truncated.key
fault_text Busy = fault_busy.key
fault_text WrongAddress = fault_wrong_address.key
fault_text Flaky = fault_flaky.key
fault_text TooMany = fault_too_many.key

-- the record of a meter, for a list that is to be opened at this bus baud
unfoldable pub record_for : ℕ → PlainMeter → Listed
record_for bus m =
    record {
      primary = m.primary;
      version = m.version;
      baud = listed_baud bus m.baud;
      id = digit_text m.digits;
      manufacturer = manufacturer_text m.manufacturer m.medium m.model;
      medium = medium_text media m.medium m.model;
      fault = fault_text m.fault;
    }
