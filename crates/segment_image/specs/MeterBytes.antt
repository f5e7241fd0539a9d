-- A meter as 25 bytes: what any bytes mean, and which bytes a meter has.
use Rattle.std.specs.Prelude.{Option, Some, None, Bool, true, false, not, List, [], ◌∷◌, ◌++◌, ℕ, eqb, ltb, length, get_or, if◌then◌else◌}
use Rattle.laws.specs.Words.{bit_if, at}
use Rattle.numbers.specs.Values.{little}
use Rattle.numbers.specs.Number.{number}
use Rattle.meter.specs.PlainMeter.{PlainMeter}
use Rattle.meter_identity.specs.Identity.{id_bytes_value, digits_of_value}
use Rattle.meter.specs.Kinds.{model_by, fault_by, model_byte_value, fault_byte_value}

-- 0 no, any other yes
abbrev pub flag_by : ℕ → Bool
flag_by b = not (eqb b 0)

-- 0 no last FCB, 1 a clear one, any other a set one
abbrev pub last_by : ℕ → Option Bool
last_by b = get_or (None ∷ Some false ∷ []) b (Some true)

-- a meter by its 25 bytes
unfoldable pub decode_meter : List ℕ → PlainMeter
decode_meter bs =
    record {
      primary = at bs 0;
      digits = digits_of_value (number 4 1 bs);
      manufacturer = number 2 5 bs;
      version = at bs 7;
      medium = at bs 8;
      model = model_by (at bs 9);
      fault = fault_by (at bs 10);
      access = at bs 11;
      baud = number 4 12 bs;
      selected = flag_by (at bs 16);
      part = at bs 17;
      last = last_by (at bs 18);
      readouts = at bs 19;
      seed = number 4 20 bs;
      hears_next = flag_by (at bs 24);
    }

-- the bytes that a meter is read from; fewer than 25 count as none
abbrev pub whole_meter : List ℕ → List ℕ
whole_meter bs = if ltb (length bs) 25 then [] else bs

-- ---- and back

abbrev pub last_byte_value : Option Bool → ℕ
last_byte_value None = 0
last_byte_value (Some false) = 1
last_byte_value (Some true) = 2

-- the 25 bytes of a meter
unfoldable pub encode_meter : PlainMeter → List ℕ
encode_meter m =
    m.primary
    ∷ id_bytes_value m.digits
    ++ little 2 m.manufacturer
    ++ (m.version ∷ m.medium ∷ model_byte_value m.model ∷ fault_byte_value m.fault ∷ m.access ∷ [])
    ++ little 4 m.baud
    ++ (bit_if m.selected ∷ m.part ∷ last_byte_value m.last ∷ m.readouts ∷ [])
    ++ little 4 m.seed
    ++ (bit_if m.hears_next ∷ [])
