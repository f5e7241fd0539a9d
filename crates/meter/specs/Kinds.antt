-- The models and the faults by their numbers.
use Rattle.std.specs.Prelude.{[], ◌∷◌, ℕ, get_or}
use Rattle.meter.specs.declared.Fault.{Fault}
use Rattle.meter.specs.declared.Fault.TheVariants.{None, Checksum, Truncated, Busy, WrongAddress, Flaky, TooMany}
use Rattle.meter.specs.declared.Model.{Model}
use Rattle.meter.specs.declared.Model.TheVariants.{Heat, Electricity, Water, Fixed}

-- 0 Heat, 1 Electricity, 2 Water, any other Fixed
abbrev pub model_by : ℕ → Model
model_by b = get_or (Heat ∷ Electricity ∷ Water ∷ []) b Fixed

-- 0 None, 1 Checksum, 2 Truncated, 3 Busy, 4 WrongAddress, 5 Flaky, any other TooMany
abbrev pub fault_by : ℕ → Fault
fault_by b = get_or (None ∷ Checksum ∷ Truncated ∷ Busy ∷ WrongAddress ∷ Flaky ∷ []) b TooMany

-- ---- and back

abbrev pub model_byte_value : Model → ℕ
model_byte_value Heat = 0
model_byte_value Electricity = 1
model_byte_value Water = 2
model_byte_value Fixed = 3

abbrev pub fault_byte_value : Fault → ℕ
fault_byte_value None = 0
fault_byte_value Checksum = 1
fault_byte_value Truncated = 2
fault_byte_value Busy = 3
fault_byte_value WrongAddress = 4
fault_byte_value Flaky = 5
fault_byte_value TooMany = 6
