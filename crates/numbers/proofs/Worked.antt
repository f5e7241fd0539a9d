-- What `Values.antt` says, held to the examples of 01.
use mathlib.Core.Path.{◌≡◌, refl}
use mathlib.Core.List.{[], ◌∷◌}
use Rattle.numbers.specs.Values.{little, bcd}

-- (d) 12345 in four BCD bytes: 45 23 01 00
pub worked_d : bcd 4 12345 ≡ 0x45 ∷ 0x23 ∷ 0x01 ∷ 0x00 ∷ []
unfolding bcd
worked_d = refl

-- digits above the eighth are lost
pub cut_off : bcd 4 9912345678 ≡ 0x78 ∷ 0x56 ∷ 0x34 ∷ 0x12 ∷ []
unfolding bcd
cut_off = refl

-- digits above the twelfth are lost: the largest u64, 18446744 073709551615
pub cut_off_largest : bcd 6 18446744073709551615 ≡ 0x15 ∷ 0x16 ∷ 0x55 ∷ 0x09 ∷ 0x37 ∷ 0x07 ∷ []
unfolding bcd
cut_off_largest = refl

-- a number, low byte first
pub number_6523 : little 2 6523 ≡ 0x7B ∷ 0x19 ∷ []
unfolding little
number_6523 = refl
