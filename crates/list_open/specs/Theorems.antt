-- What holds of every opening.
use Rattle.std.specs.Prelude.{◌≡◌, Bool, true, false, List, ◌∷◌, ◌++◌, map, ℕ, ◌+◌, ◌-◌, ◌*◌, ◌≤◌, ◌<◌, length, drop}
use Rattle.laws.specs.Words.{at}
use Rattle.laws.specs.Refusal.{not_refused, refused_version, refused_length, refused_capacity, refused_primary, refused_fault, refused_baud}
use Rattle.meter.specs.Meter.{rates}
use Rattle.list_check.specs.Tables.{is_rate_value}
use Rattle.list.specs.Layout.{Listed, fits, read_records}
use Rattle.list_check.specs.Check.{check, all_pass_value}
use Rattle.list_meter.specs.Fresh.{fresh}
use Rattle.list_open.specs.Opening.{capacity, Opened, opens, refuses, open_list_value}

-- the layout of a list is in order, and these are its records
pub record LaidOut (list : List ℕ) (rs : List Listed) : Type 0 where
  pub begun : 3 ≤ length list
  pub version : at list 0 ≡ 1
  pub counted : at list 1 * 256 + at list 2 ≡ length list - 3
  pub read : read_records (length list) (drop 3 list) ≡ fits rs

-- 01's table: in which order a list is judged; and which record is named
pub data ByTable (list : List ℕ) (bus : ℕ) (practice : Bool) : Opened → Type 0 where
  -- 1: "under 3 bytes, or byte 0 is not 1"
  short : length list < 3 → ByTable list bus practice (refuses refused_version 0)
  version : (at list 0 ≡ 1 → ⊥) → ByTable list bus practice (refuses refused_version 0)
  -- 2: "a length does not fit"
  unfit : 3 ≤ length list → at list 0 ≡ 1 → ((rs : List Listed) → LaidOut list rs → ⊥) → ByTable list bus practice (refuses refused_length 0)
  -- 3: "over 64 meters", whether they pass or fail
  over : (rs : List Listed) → LaidOut list rs → capacity < length rs → ByTable list bus practice (refuses refused_capacity 0)
  -- 4 to 9, at whatever bus baud. Req 02: "the first in list order with its first number": those before it pass
  failing : (rs : List Listed) → LaidOut list rs → length rs ≤ capacity
      → (before : List Listed) (named : Listed) (after : List Listed) → rs ≡ before ++ named ∷ after → all_pass_value before ≡ true → (check named ≡ not_refused → ⊥)
      → ByTable list bus practice (refuses (check named) (length before))
  -- 10: "baud not one of eight"
  baud : (rs : List Listed) → LaidOut list rs → length rs ≤ capacity → all_pass_value rs ≡ true → is_rate_value rates bus ≡ false → ByTable list bus practice (refuses refused_baud 0)
  -- accepted: a meter for each record, in list order
  accepted : (rs : List Listed) → LaidOut list rs → length rs ≤ capacity → all_pass_value rs ≡ true → is_rate_value rates bus ≡ true
      → ByTable list bus practice (opens (map (fresh bus practice) rs))

-- "the numbers and the layout checks before them are as they were": every list is judged so,
abbrev pub JudgedByTable : Type 0
JudgedByTable = (list : List ℕ) (bus : ℕ) (practice : Bool) → ByTable list bus practice (open_list_value list bus practice)

-- and not otherwise;
abbrev pub JudgedOnce : Type 0
JudgedOnce = (list : List ℕ) (bus : ℕ) (practice : Bool) (o : Opened) → ByTable list bus practice o → o ≡ open_list_value list bus practice

-- a record that fails has one of 4 to 9.
abbrev pub FailsWith4To9 : Type 0
FailsWith4To9 = (r : Listed) → (check r ≡ not_refused → ⊥) → (refused_primary ≤ check r) × (check r ≤ refused_fault)
