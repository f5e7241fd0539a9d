-- What the program makes of the list's records, one after another: its meters, or the first record that fails. That it
-- comes to 01's opening is proved (proofs/GivenLaws).
use Rattle.std.specs.Prelude.{◌≡◌, Bool, List, ℕ, ◌+◌, ◌≤◌, ltb, set, replicate, if◌then◌else◌, Result, Ok, Err}
use Rattle.std.specs.List.{fold}
use Rattle.list_open.specs.Opening.{most_meters}
use Rattle.meter.specs.View.{blank_meter_value}
use Rattle.meter.specs.declared.Meter.{Meter}
use Rattle.list.specs.Layout.{Listed, Layout, fits, no_fit}
use Rattle.list.specs.ProgramReading.{layout_value}
use Rattle.list_check.specs.Checked.{checked_of}
use Rattle.list_check.specs.declared.Failing.{Failing}
use Rattle.list_check.specs.declared.Values.{Values}
use Rattle.list_check.specs.declared.refusal.Refusal.{Refusal}
use Rattle.list_check.specs.declared.refusal.Refusal.TheVariants.{Length, AtRecord}
use Rattle.list_meter.specs.ProgramFresh.{fresh_of}
use Rattle.list_open.specs.declared.Meters.{Meters}

-- no meters
unfoldable pub no_meters_value : Meters
no_meters_value = record { meters = replicate most_meters blank_meter_value; count = 0 }

-- one meter more, while there is room
unfoldable pub with_meter : Meters → Meter → Meters
with_meter a m = if ltb a.count most_meters then record { meters = set a.meters a.count m; count = a.count + 1 } else a

-- what is checked of the record with this index
abbrev pub at_index : ℕ → Result Values Failing → Result Values Refusal
at_index i (Ok v) = Ok v
at_index i (Err f) = Err (AtRecord f i)

-- one record more, checked. Its index is the number of meters so far
unfoldable pub with_record : ℕ → Bool → Meters → Result Values Refusal → Result Meters Refusal
with_record bus practice a (Ok v) = Ok (with_meter a (fresh_of bus practice v))
with_record bus practice a (Err e) = Err e

-- one record more; a refused opening takes in no more
abbrev pub take_in : ℕ → Bool → Result Meters Refusal → Listed → Result Meters Refusal
take_in bus practice (Ok a) r = with_record bus practice a (at_index a.count (checked_of r))
take_in bus practice (Err e) r = Err e

-- all records, in list order
unfoldable pub gathered_of : ℕ → Bool → Layout → Result Meters Refusal
gathered_of bus practice no_fit = Err Length
gathered_of bus practice (fits rs) = fold (take_in bus practice) (Ok no_meters_value) rs

-- a list whose layout is in order, with at most as many records as there may be meters
pub record Few (list : List ℕ) : Type 0 where
  pub records : ℕ
  pub fits : layout_value list ≡ Ok records
  pub few : records ≤ most_meters
