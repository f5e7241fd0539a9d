-- For each number of an opening's refusal a smallest list that gives it; and a list with several records that fail.
use mathlib.Core.Path.{◌≡◌, refl}
use mathlib.Core.Bool.{Bool, false}
use mathlib.Core.List.{List, [], ◌∷◌, ◌++◌}
use Prim.Native.Nat.{ℕ, zero, suc}
use lib.ListN.{length}
use Rattle.meter.specs.Meter.{rates}
use Rattle.list_check.specs.Tables.{media, faults}
use Rattle.list.specs.Layout.{read_texts, read_records}
use Rattle.list_check.specs.Check.{good_id_value, good_manufacturer_value, check}
use Rattle.list_open.specs.Opening.{capacity, refuses, least_below, open_records, open_list_value}

-- no byte at all
pub refused_1 : open_list_value [] 2400 false ≡ refuses 1 0
unfolding open_list_value
refused_1 = refl

-- one byte is counted, none follows
pub refused_2 : open_list_value (0x01 ∷ 0x00 ∷ 0x01 ∷ []) 2400 false ≡ refuses 2 0
unfolding open_list_value
refused_2 = refl

-- a record of four empty texts
abbrev bare : List ℕ
bare = 0x0A ∷ 0x00 ∷ 0x00 ∷ 0x00 ∷ 0x00 ∷ 0x00 ∷ 0x00 ∷ 0x00 ∷ 0x00 ∷ 0x00 ∷ 0x00 ∷ []

abbrev times : ℕ → List ℕ → List ℕ
times zero bs = []
times (suc n) bs = bs ++ times n bs

-- 65 of these: their number comes before what each fails with
pub refused_3 : open_list_value (0x01 ∷ 0x02 ∷ 0xCB ∷ times 65 bare) 2400 false ≡ refuses 3 0
unfolding open_list_value open_records read_records read_texts capacity
refused_3 = refl

-- and a length that does not fit past the 64th record comes before their number
pub refused_2_late : open_list_value (0x01 ∷ 0x02 ∷ 0xCC ∷ times 65 bare ++ 0x00 ∷ []) 2400 false ≡ refuses 2 0
unfolding open_list_value open_records read_records read_texts capacity
refused_2_late = refl

-- primary 251
pub refused_4 : open_list_value (0x01 ∷ 0x00 ∷ 0x0B ∷ 0x0A ∷ 0xFB ∷ 0x00 ∷ 0x00 ∷ 0x00 ∷ 0x00 ∷ 0x00 ∷ 0x00 ∷ 0x00 ∷ 0x00 ∷ 0x00 ∷ []) 2400 false ≡ refuses 4 0
unfolding open_list_value open_records least_below read_records read_texts check capacity
refused_4 = refl

-- no id
pub refused_5 : open_list_value (0x01 ∷ 0x00 ∷ 0x0B ∷ bare) 2400 false ≡ refuses 5 0
unfolding open_list_value open_records least_below read_records read_texts check good_id_value capacity
refused_5 = refl

-- id 00000000
abbrev id : List ℕ
id = 0x08 ∷ 0x30 ∷ 0x30 ∷ 0x30 ∷ 0x30 ∷ 0x30 ∷ 0x30 ∷ 0x30 ∷ 0x30 ∷ []

-- manufacturer KAM
abbrev kam : List ℕ
kam = 0x03 ∷ 0x4B ∷ 0x41 ∷ 0x4D ∷ []

-- medium gas
abbrev gas : List ℕ
gas = 0x03 ∷ 0x67 ∷ 0x61 ∷ 0x73 ∷ []

-- no manufacturer, and the medium is not heat_old
pub refused_6 : open_list_value (0x01 ∷ 0x00 ∷ 0x13 ∷ 0x12 ∷ 0x00 ∷ 0x00 ∷ 0x00 ∷ 0x00 ∷ 0x00 ∷ 0x00 ∷ id ++ 0x00 ∷ 0x00 ∷ 0x00 ∷ []) 2400 false ≡ refuses 6 0
unfolding open_list_value open_records least_below read_records read_texts check good_id_value good_manufacturer_value capacity
refused_6 = refl

-- no medium
pub refused_7 : open_list_value (0x01 ∷ 0x00 ∷ 0x16 ∷ 0x15 ∷ 0x00 ∷ 0x00 ∷ 0x00 ∷ 0x00 ∷ 0x00 ∷ 0x00 ∷ id ++ kam ++ 0x00 ∷ 0x00 ∷ []) 2400 false ≡ refuses 7 0
unfolding open_list_value open_records least_below read_records read_texts check good_id_value good_manufacturer_value media capacity
refused_7 = refl

-- own baud 1
pub refused_8 : open_list_value (0x01 ∷ 0x00 ∷ 0x19 ∷ 0x18 ∷ 0x00 ∷ 0x00 ∷ 0x00 ∷ 0x00 ∷ 0x00 ∷ 0x01 ∷ id ++ kam ++ gas ++ 0x00 ∷ []) 2400 false ≡ refuses 8 0
unfolding open_list_value open_records least_below read_records read_texts check good_id_value good_manufacturer_value media rates capacity
refused_8 = refl

-- no fault
pub refused_9 : open_list_value (0x01 ∷ 0x00 ∷ 0x19 ∷ 0x18 ∷ 0x00 ∷ 0x00 ∷ 0x00 ∷ 0x00 ∷ 0x00 ∷ 0x00 ∷ id ++ kam ++ gas ++ 0x00 ∷ []) 2400 false ≡ refuses 9 0
unfolding open_list_value open_records least_below read_records read_texts check good_id_value good_manufacturer_value media faults rates capacity
refused_9 = refl

-- `01 00 00` is a list of no meters, at 0 Bd
pub refused_10 : open_list_value (0x01 ∷ 0x00 ∷ 0x00 ∷ []) 0 false ≡ refuses 10 0
unfolding open_list_value open_records read_records rates capacity
refused_10 = refl

-- ---- several records fail

-- a record of these texts, with primary p and own baud b
abbrev listed : ℕ → ℕ → List ℕ → List ℕ → List ℕ
listed p b medium fault = let rest = p ∷ 0x01 ∷ 0x00 ∷ 0x00 ∷ 0x00 ∷ b ∷ id ++ kam ++ medium ++ fault in length rest ∷ rest

-- fault none
abbrev faultless : List ℕ
faultless = 0x04 ∷ 0x6E ∷ 0x6F ∷ 0x6E ∷ 0x65 ∷ []

-- Record 0 passes. Record 1 fails by its own baud and by its fault; record 2 by its primary, and record 3 by its
-- medium. So the last that fails is (7, 3), the one with the least number (4, 2), the one after the first (8, 2), and
-- the first with its later number (9, 1).
abbrev several_fail : List ℕ
several_fail = let rs = listed 0x00 0x00 gas faultless ++ listed 0x01 0x01 gas (0x00 ∷ []) ++ listed 0xFB 0x00 gas faultless ++ listed 0x02 0x00 (0x00 ∷ []) faultless in 0x01 ∷ 0x00 ∷ length rs ∷ rs

pub refused-first : (practice : Bool) → open_list_value several_fail 2400 practice ≡ refuses 8 1
unfolding open_list_value open_records least_below read_records read_texts check good_id_value good_manufacturer_value media faults rates capacity
refused-first practice = refl

-- at a bus baud that is none of the eight too
pub refused_before_baud : (practice : Bool) → open_list_value several_fail 2401 practice ≡ refuses 8 1
unfolding open_list_value open_records least_below read_records read_texts check good_id_value good_manufacturer_value media faults rates capacity
refused_before_baud practice = refl
