-- "The keys and codes are those of MEDIA, FAULTS and BAUD_RATES": key texts as bytes, codes, and the kinds that the
-- Rust's `model_of` and `fault_of` give. The rates are in `meter`.
use Rattle.std.specs.Prelude.{Bool, false, ◌||◌, List, [], ◌∷◌, ℕ, eqb, if◌then◌else◌}
use Rattle.laws.specs.Ascii.{ascii}
use Rattle.laws.specs.Words.{same_list}
use Rattle.meter.specs.declared.Fault.{Fault}
use Rattle.meter.specs.declared.Fault.TheVariants.{None, Checksum, Truncated, Busy, WrongAddress, Flaky, TooMany}
use Rattle.meter.specs.declared.Model.{Model}
use Rattle.meter.specs.declared.Model.TheVariants.{Heat, Electricity, Water, Fixed}

-- a row of MEDIA: the key, the code in the telegram, and how the meter replies
pub record Medium : Type 0 where
  pub key : List ℕ
  pub code : ℕ
  pub model : Model

-- a row of FAULTS
pub record FaultKey : Type 0 where
  pub key : List ℕ
  pub fault : Fault

abbrev pub medium_heat : Medium
medium_heat = record { key = ascii "heat"; code = 0x04; model = Heat }

abbrev pub medium_cooling : Medium
medium_cooling = record { key = ascii "cooling"; code = 0x0A; model = Heat }

abbrev pub medium_water : Medium
medium_water = record { key = ascii "water"; code = 0x07; model = Water }

abbrev pub medium_cold_water : Medium
medium_cold_water = record { key = ascii "cold_water"; code = 0x16; model = Water }

abbrev pub medium_warm_water : Medium
medium_warm_water = record { key = ascii "warm_water"; code = 0x06; model = Water }

abbrev pub medium_gas : Medium
medium_gas = record { key = ascii "gas"; code = 0x03; model = Water }

abbrev pub medium_electricity : Medium
medium_electricity = record { key = ascii "electricity"; code = 0x02; model = Electricity }

abbrev pub medium_heat_old : Medium
medium_heat_old = record { key = ascii "heat_old"; code = 0x04; model = Fixed }

-- in MEDIA's order
unfoldable pub media : List Medium
media = medium_heat ∷ medium_cooling ∷ medium_water ∷ medium_cold_water ∷ medium_warm_water ∷ medium_gas ∷ medium_electricity ∷ medium_heat_old ∷ []

abbrev pub fault_none : FaultKey
fault_none = record { key = ascii "none"; fault = None }

abbrev pub fault_checksum : FaultKey
fault_checksum = record { key = ascii "checksum"; fault = Checksum }

abbrev pub fault_truncated : FaultKey
fault_truncated = record { key = ascii "truncated"; fault = Truncated }

abbrev pub fault_busy : FaultKey
fault_busy = record { key = ascii "busy"; fault = Busy }

abbrev pub fault_wrong_address : FaultKey
fault_wrong_address = record { key = ascii "wrong_address"; fault = WrongAddress }

abbrev pub fault_flaky : FaultKey
fault_flaky = record { key = ascii "flaky"; fault = Flaky }

abbrev pub fault_too_many : FaultKey
fault_too_many = record { key = ascii "too_many"; fault = TooMany }

-- in FAULTS' order
unfoldable pub faults : List FaultKey
faults = fault_none ∷ fault_checksum ∷ fault_truncated ∷ fault_busy ∷ fault_wrong_address ∷ fault_flaky ∷ fault_too_many ∷ []

-- is the key in the table
abbrev pub is_medium_value : List Medium → List ℕ → Bool
is_medium_value [] t = false
is_medium_value (r ∷ rs) t = same_list r.key t || is_medium_value rs t

abbrev pub is_fault : List FaultKey → List ℕ → Bool
is_fault [] t = false
is_fault (r ∷ rs) t = same_list r.key t || is_fault rs t

-- a key's row. For a key that is not there `check` refuses the record; here, as in the Rust, it is water, and no fault
abbrev pub medium_of : List Medium → List ℕ → Medium
medium_of [] t = medium_water
medium_of (r ∷ rs) t = if same_list r.key t then r else medium_of rs t

abbrev pub fault_of : List FaultKey → List ℕ → Fault
fault_of [] t = None
fault_of (r ∷ rs) t = if same_list r.key t then r.fault else fault_of rs t

-- "baud not one of eight"
abbrev pub is_rate_value : List ℕ → ℕ → Bool
is_rate_value [] b = false
is_rate_value (r ∷ rs) b = eqb r b || is_rate_value rs b
