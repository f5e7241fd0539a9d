-- A list of meters, opened: "Opening takes list, bus baud, a practice flag and the origin".
use Rattle.std.specs.Prelude.{Bool, ◌||◌, not, List, [], map, ℕ, zero, suc, ◌+◌, ◌-◌, ◌*◌, eqb, ltb, length, drop, if◌then◌else◌}
use Rattle.laws.specs.Words.{at}
use Rattle.laws.specs.Refusal.{not_refused, refused_version, refused_length, refused_capacity, refused_baud}
use Rattle.meter.specs.PlainMeter.{PlainMeter}
use Rattle.meter.specs.Meter.{rates}
use Rattle.list_check.specs.Tables.{is_rate_value}
use Rattle.list.specs.Layout.{Listed, Layout, fits, no_fit, read_records}
use Rattle.list_check.specs.Check.{check, all_pass_value}
use Rattle.list_meter.specs.Fresh.{fresh}

-- "At most 64 meters.": as the number that an array's length is, and as a word that the checker does not replace by 64
abbrev pub most_meters : ℕ
most_meters = 64

unfoldable pub capacity : ℕ
capacity = most_meters

-- what opening a list at a baud comes to: the meters; or a refusal, its number and the index of the record that it
-- names, else 0
pub data Opened : Type 0 where
  opens : List PlainMeter → Opened
  refuses : ℕ → ℕ → Opened

-- the meters of an opening; a refused one has none
abbrev pub meters_in : Opened → List PlainMeter
meters_in (opens ms) = ms
meters_in (refuses number index) = []

-- what an opening answers: its number, 0 where it is accepted, and its index
abbrev pub number_in : Opened → ℕ
number_in (opens ms) = not_refused
number_in (refuses number index) = number

abbrev pub index_in : Opened → ℕ
index_in (opens ms) = 0
index_in (refuses number index) = index

-- the least i below n for which t holds; n, where there is none
unfoldable pub least_below : ℕ → (ℕ → Bool) → ℕ
least_below zero t = zero
least_below (suc n) t = if t zero then zero else suc (least_below n (λ i. t (suc i)))

-- each record's first number, in list order; 0 for one that passes
abbrev pub checks : List Listed → List ℕ
checks rs = map check rs

-- the record with this index, from 0, fails
abbrev pub fails_at : List Listed → ℕ → Bool
fails_at rs i = not (eqb (at (checks rs) i) not_refused)

-- Req 02: "Where a list has several failing meters, opening names the first in list order with its first number.": the
-- least index whose record fails
abbrev pub first_failing : List Listed → ℕ
first_failing rs = least_below (length rs) (fails_at rs)

-- the order of the table: 2: a length does not fit; 3: over 64 meters; 4 to 9: each record; 10: baud not one of eight.
-- 4 to 9 name a record; "Elsewhere the index is 0."
unfoldable pub open_records : ℕ → Bool → Layout → Opened
open_records bus practice no_fit = refuses refused_length 0
open_records bus practice (fits rs) =
    if ltb capacity (length rs) then refuses refused_capacity 0 else
    if not (all_pass_value rs) then (let i = first_failing rs in refuses (at (checks rs) i) i) else
    if not (is_rate_value rates bus) then refuses refused_baud 0 else
    opens (map (fresh bus practice) rs)

-- "Byte 0 is version 01; two bytes, big-endian, count all that follows; then records." 1: under 3 bytes, or byte 0 is
-- not 1; 2: a length does not fit
unfoldable pub open_list_value : List ℕ → ℕ → Bool → Opened
open_list_value bs bus practice =
    if ltb (length bs) 3 || not (eqb (at bs 0) 1) then refuses refused_version 0 else
    if not (eqb (at bs 1 * 256 + at bs 2) (length bs - 3)) then refuses refused_length 0 else
    open_records bus practice (read_records (length bs) (drop 3 bs))
