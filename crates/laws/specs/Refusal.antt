-- 01, "Places of refusal": a name for each number, in the table's order, under the words of its condition; then 02's
-- ("18 and later numbers join 01's table").
use Rattle.std.specs.Prelude.{ℕ, Result, Ok, Err}

-- a call that is not refused: the number of no place
abbrev pub not_refused : ℕ
not_refused = 0

-- ---- opening

-- "under 3 bytes, or byte 0 is not 1"
abbrev pub refused_version : ℕ
refused_version = 1

-- "a length does not fit"
abbrev pub refused_length : ℕ
refused_length = 2

-- "over 64 meters"
abbrev pub refused_capacity : ℕ
refused_capacity = 3

-- ---- each record: "primary over 250; id; manufacturer; medium; own baud; fault"

-- "primary over 250"
abbrev pub refused_primary : ℕ
refused_primary = 4

-- "id"
abbrev pub refused_id : ℕ
refused_id = 5

-- "manufacturer"
abbrev pub refused_manufacturer : ℕ
refused_manufacturer = 6

-- "medium"
abbrev pub refused_medium : ℕ
refused_medium = 7

-- "own baud"
abbrev pub refused_own_baud : ℕ
refused_own_baud = 8

-- "fault"
abbrev pub refused_fault : ℕ
refused_fault = 9

-- ---- opening, baud change

-- "baud not one of eight"
abbrev pub refused_baud : ℕ
refused_baud = 10

-- ---- telegram writer

-- "data over 252"
abbrev pub refused_data : ℕ
refused_data = 11

-- "lent bytes too few"; of an export "a short buffer"
abbrev pub refused_room : ℕ
refused_room = 12

-- ---- send, search

-- send: "piece over 1,024"
abbrev pub refused_piece : ℕ
refused_piece = 13

-- send, search: "a clock field out of range"
abbrev pub refused_clock : ℕ
refused_clock = 14

-- send: "queue would pass 4,096"
abbrev pub refused_queue : ℕ
refused_queue = 15

-- search: "input or queue not empty"
abbrev pub refused_not_empty : ℕ
refused_not_empty = 16

-- search: "fewer entries lent than meters opened"
abbrev pub refused_entries : ℕ
refused_entries = 17

-- ---- export (Req 04: "18, a primary above 250, then 12, a short buffer")

-- "a primary above 250"
abbrev pub refused_high_primary : ℕ
refused_high_primary = 18

-- ---- what a call answers

-- its number: that of its error, where it is refused
abbrev pub number_of_answer : {A E : Type 0} → (E → ℕ) → Result A E → ℕ
number_of_answer error_number (Ok a) = not_refused
number_of_answer error_number (Err e) = error_number e

-- how many bytes: none, where it is refused
abbrev pub count_of_answer : {E : Type 0} → Result ℕ E → ℕ
count_of_answer (Ok n) = n
count_of_answer (Err e) = 0
