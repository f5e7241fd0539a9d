-- What `Identity.antt` says, held to the examples of 01.
use mathlib.Core.Path.{◌≡◌, refl}
use mathlib.Core.List.{[], ◌∷◌}
use Rattle.meter_identity.specs.Identity.{manufacturer_code_value, id_bytes_value, digits_of_value}

-- (c) KAM 2C2D, SEN 4CAE, empty 0000
pub worked_c_kam : manufacturer_code_value (0x4B ∷ 0x41 ∷ 0x4D ∷ []) ≡ 0x2C2D
unfolding manufacturer_code_value
worked_c_kam = refl

pub worked_c_sen : manufacturer_code_value (0x53 ∷ 0x45 ∷ 0x4E ∷ []) ≡ 0x4CAE
unfolding manufacturer_code_value
worked_c_sen = refl

pub worked_c_empty : manufacturer_code_value [] ≡ 0x0000
unfolding manufacturer_code_value
worked_c_empty = refl

-- small letters and a fourth letter make no difference: kamx
pub small_letters : manufacturer_code_value (0x6B ∷ 0x61 ∷ 0x6D ∷ 0x78 ∷ []) ≡ 0x2C2D
unfolding manufacturer_code_value
small_letters = refl

-- an id, low byte first
pub id_12345678 : id_bytes_value (digits_of_value 0x12345678) ≡ 0x78 ∷ 0x56 ∷ 0x34 ∷ 0x12 ∷ []
unfolding id_bytes_value digits_of_value
id_12345678 = refl
