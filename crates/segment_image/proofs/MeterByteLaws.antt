-- A meter and its bytes, by its fields.
use mathlib.Core.Path.{◌≡◌, refl}
use mathlib.Core.Bool.{Bool, true, false}
use mathlib.Core.List.{List, [], ◌∷◌}
use Prim.Native.Nat.{ℕ, ◌≤◌, ◌<◌}
use lib.ListN.{length}
use borrow.Author.Tests.{lt-ltb, le-ltb}
use Rattle.laws.specs.Words.{bit_if, at}
use Rattle.numbers.specs.Values.{little}
use Rattle.meter_identity.specs.Identity.{digits_of_value, id_bytes_value}
use Rattle.meter_identity.proofs.IdentityLaws.{id_little}
use Rattle.meter.specs.PlainMeter.{PlainMeter}
use Rattle.meter.specs.View.{blank_meter_value, plain_meter}
use Rattle.meter.specs.declared.Meter.{Meter}
use Rattle.meter.specs.declared.Fault.{Fault}
use Rattle.meter.specs.declared.Fault.TheVariants.{None, Checksum, Truncated, Busy, WrongAddress, Flaky, TooMany}
use Rattle.meter.specs.declared.Model.{Model}
use Rattle.meter.specs.declared.Model.TheVariants.{Heat, Electricity, Water, Fixed}
use Rattle.meter.specs.Kinds.{model_by, fault_by, model_byte_value, fault_byte_value}
use Rattle.std.specs.Prelude.{Option, Some, None as no_fcb}
use Rattle.segment_image.specs.MeterBytes.{flag_by, last_by, decode_meter, whole_meter, last_byte_value, encode_meter}
use Rattle.numbers.specs.Number.{number}

-- a meter, if each part says so
pub meter-is : (bs : List ℕ) (m : Meter) → at bs 0 ≡ m.state.primary → number 4 1 bs ≡ m.built.id → number 2 5 bs ≡ m.built.manufacturer → at bs 7 ≡ m.built.version → at bs 8 ≡ m.built.medium
    → model_by (at bs 9) ≡ m.built.model → fault_by (at bs 10) ≡ m.built.fault → at bs 11 ≡ m.state.access → number 4 12 bs ≡ m.state.baud → flag_by (at bs 16) ≡ m.state.selected → at bs 17 ≡ m.state.part
    → last_by (at bs 18) ≡ m.state.last → at bs 19 ≡ m.state.readouts → number 4 20 bs ≡ m.built.seed → flag_by (at bs 24) ≡ m.state.hearing → decode_meter bs ≡ plain_meter m
unfolding decode_meter
meter-is bs m e₁ e₂ e₃ e₄ e₅ e₆ e₇ e₈ e₉ f₁ f₂ f₃ f₄ f₅ f₆ = rw (e₁, e₂, e₃, e₄, e₅, e₆, e₇, e₈, e₉, f₁, f₂, f₃, f₄, f₅, f₆)

-- no bytes mean a blank meter
pub blank-is : plain_meter blank_meter_value ≡ decode_meter []
unfolding blank_meter_value digits_of_value decode_meter number
blank-is = refl

-- the bytes that a meter is read from
pub few : (bs : List ℕ) → length bs < 25 → whole_meter bs ≡ []
few bs h = rw (lt-ltb (length bs) 25 h)

pub enough : (bs : List ℕ) → 25 ≤ length bs → whole_meter bs ≡ bs
enough bs h = rw (le-ltb (length bs) 25 h)

-- what a byte is written for, it is read as
pub flag_back : (b : Bool) → flag_by (bit_if b) ≡ b
flag_back true = refl
flag_back false = refl

pub model_back : (m : Model) → model_by (model_byte_value m) ≡ m
model_back Heat = refl
model_back Electricity = refl
model_back Water = refl
model_back Fixed = refl

pub fault_back : (f : Fault) → fault_by (fault_byte_value f) ≡ f
fault_back None = refl
fault_back Checksum = refl
fault_back Truncated = refl
fault_back Busy = refl
fault_back WrongAddress = refl
fault_back Flaky = refl
fault_back TooMany = refl

pub last_back : (l : Option Bool) → last_by (last_byte_value l) ≡ l
last_back no_fcb = refl
last_back (Some false) = refl
last_back (Some true) = refl

-- the bytes of a meter, by those of its numbers and by its marks
abbrev row : Meter → List ℕ → List ℕ → List ℕ → List ℕ → ℕ → ℕ → ℕ → ℕ → ℕ → List ℕ
row m id manufacturer baud seed model fault selected last hearing =
    m.state.primary ∷ at id 0 ∷ at id 1 ∷ at id 2 ∷ at id 3 ∷ at manufacturer 0 ∷ at manufacturer 1 ∷ m.built.version ∷ m.built.medium ∷ model ∷ fault ∷ m.state.access ∷ at baud 0 ∷ at baud 1 ∷ at baud 2 ∷ at baud 3
    ∷ selected ∷ m.state.part ∷ last ∷ m.state.readouts ∷ at seed 0 ∷ at seed 1 ∷ at seed 2 ∷ at seed 3 ∷ hearing ∷ []

pub bytes_are : (m : Meter) (id manufacturer baud seed : List ℕ) (model fault selected last hearing : ℕ)
    → id ≡ little 4 m.built.id → manufacturer ≡ little 2 m.built.manufacturer → baud ≡ little 4 m.state.baud → seed ≡ little 4 m.built.seed
    → model ≡ model_byte_value m.built.model → fault ≡ fault_byte_value m.built.fault → selected ≡ bit_if m.state.selected → last ≡ last_byte_value m.state.last → hearing ≡ bit_if m.state.hearing
    → row m id manufacturer baud seed model fault selected last hearing ≡ encode_meter (plain_meter m)
unfolding encode_meter little
bytes_are m id manufacturer baud seed model fault selected last hearing e₁ e₂ e₃ e₄ e₅ e₆ e₇ e₈ e₉ = rw (e₁, e₂, e₃, e₄, e₅, e₆, e₇, e₈, e₉, id_little m.built.id)

pub meter_long : (m : PlainMeter) → length (encode_meter m) ≡ 25
unfolding encode_meter little id_bytes_value
meter_long m = refl
