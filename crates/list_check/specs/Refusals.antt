-- What an opening answers, in the numbers of 01's table.
use Rattle.std.specs.Prelude.{Bool, true, false, ℕ, Result, Ok, Err}
use Rattle.laws.specs.Refusal.{number_of_answer, refused_version, refused_length, refused_capacity, refused_baud}
use Rattle.list.specs.declared.LayoutError.{LayoutError}
use Rattle.list.specs.declared.LayoutError.TheVariants.{Unversioned, Unfit}
use Rattle.list_check.specs.Checked.{fail_number_value}
use Rattle.list_check.specs.declared.refusal.Refusal.{Refusal}
use Rattle.list_check.specs.declared.refusal.Refusal.TheVariants.{Version, Length, Capacity, AtRecord, Baud}

-- 1: under 3 bytes, or byte 0 is not 1; 2: a length does not fit; 3: over 64 meters; 4 to 9: a record; 10: baud not
-- one of eight
abbrev pub error_number : Refusal → ℕ
error_number Version = refused_version
error_number Length = refused_length
error_number Capacity = refused_capacity
error_number (AtRecord f i) = fail_number_value f
error_number Baud = refused_baud

-- the record's index from 0; elsewhere 0
abbrev pub error_index : Refusal → ℕ
error_index Version = 0
error_index Length = 0
error_index Capacity = 0
error_index (AtRecord f i) = i
error_index Baud = 0

abbrev pub refusal_of_layout : LayoutError → Refusal
refusal_of_layout Unversioned = Version
refusal_of_layout Unfit = Length

-- of an answer; 0: accepted
abbrev pub refusal_number_value : {T : Type 0} → Result T Refusal → ℕ
refusal_number_value answer = number_of_answer error_number answer

abbrev pub refusal_index_value : {T : Type 0} → Result T Refusal → ℕ
refusal_index_value (Ok x) = 0
refusal_index_value (Err e) = error_index e

abbrev pub is_accepted_value : {T : Type 0} → Result T Refusal → Bool
is_accepted_value (Ok x) = true
is_accepted_value (Err e) = false
