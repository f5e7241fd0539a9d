-- What the program's opening answers, in the words of 01: a number, an index, and the meters.
use Rattle.std.specs.Prelude.{◌≡◌, Bool, List, [], map, ℕ, length, take, Result, Ok, Err}
use Rattle.meter.specs.declared.Meter.{Meter}
use Rattle.meter.specs.View.{plain_meter}
use Rattle.list_open.specs.Opening.{meters_in, number_in, index_in, open_list_value}
use Rattle.list_check.specs.declared.refusal.Refusal.{Refusal}
use Rattle.list_check.specs.Refusals.{refusal_number_value, refusal_index_value}
use Rattle.list_open.specs.declared.Meters.{Meters}

-- the meters of an answer; a refused one has none
abbrev pub given_meters : Result Meters Refusal → List Meter
given_meters (Ok a) = take a.count a.meters
given_meters (Err e) = []

-- and how many there are
abbrev pub given_count : Result Meters Refusal → ℕ
given_count (Ok a) = a.count
given_count (Err e) = 0

-- the contract of an opening: number, index and meters are the definition's; a refused one has no meters
pub record MetersGiven (list : List ℕ) (bus : ℕ) (practice : Bool) (a : Result Meters Refusal) : Type 0 where
  pub number : refusal_number_value a ≡ number_in (open_list_value list bus practice)
  pub index : refusal_index_value a ≡ index_in (open_list_value list bus practice)
  pub count : given_count a ≡ length (meters_in (open_list_value list bus practice))
  pub meters : map plain_meter (given_meters a) ≡ meters_in (open_list_value list bus practice)
