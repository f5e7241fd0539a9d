-- What the program's opening answers is what the definition gives, case by case.
use Rattle.std.specs.Prelude.{Result, Ok, Err}
use mathlib.Core.Path.{◌≡◌, refl, sym, ap, ◌∙◌}
use mathlib.Core.Bool.{Bool, true, false}
use mathlib.Core.List.{List, map}
use Prim.Native.Nat.{ℕ, ◌≤◌, ◌<◌}
use native.Mathlib.Nat.{zero-add}
use native.Mathlib.Omega.{arith}
use lib.ListN.{length, take, length-map, length-replicate}
use Rattle.std.specs.List.{fold}
use Rattle.meter.specs.Meter.{rates}
use Rattle.meter.specs.View.{blank_meter_value, plain_meter}
use Rattle.list_check.specs.Tables.{is_rate_value}
use Rattle.list.specs.Layout.{Listed, fits}
use Rattle.list.specs.ProgramReading.{layout_value}
use Rattle.list.specs.declared.LayoutError.{LayoutError}
use Rattle.list.specs.declared.LayoutError.TheVariants.{Unversioned, Unfit}
use Rattle.list_check.specs.Check.{all_pass_value}
use Rattle.list_open.specs.Opening.{most_meters, capacity, Opened, opens, refuses, meters_in, number_in, index_in, first_failing, open_records, open_list_value}
use Rattle.list_meter.specs.Fresh.{fresh}
use Rattle.list_open.specs.ProgramGather.{no_meters_value, take_in, gathered_of}
use Rattle.list_open.specs.Given.{MetersGiven}
use Rattle.list_check.specs.Refusals.{error_number, error_index, refusal_of_layout}
use Rattle.list_check.specs.declared.refusal.Refusal.{Refusal}
use Rattle.list_check.specs.declared.refusal.Refusal.TheVariants.{Capacity, Baud}
use Rattle.list_open.specs.declared.Meters.{Meters}
use Rattle.list_open.proofs.FirstLaws.{first_number}
use Rattle.list_open.proofs.OpeningLaws.{capacity-is, records_over, records_failing, records_baud, records_opened}
use Rattle.list_open.proofs.LaidLaws.{read_from, by_layout}
use Rattle.list_open.proofs.TakeInLaws.{Under, all_taken, one_stops}

-- ---- a refusal

pub given-refused : (bs : List ℕ) (bus : ℕ) (practice : Bool) (e : Refusal) → open_list_value bs bus practice ≡ refuses (error_number e) (error_index e) → MetersGiven bs bus practice (Err e)
given-refused bs bus practice e o =
    record {
      number = ap number_in (sym o);
      index = ap index_in (sym o);
      count = ap (λ (x : Opened). length (meters_in x)) (sym o);
      meters = ap meters_in (sym o);
    }

pub given_layout : (bs : List ℕ) (bus : ℕ) (practice : Bool) (e : LayoutError) → Err e ≡ layout_value bs → MetersGiven bs bus practice (Err (refusal_of_layout e))
given_layout bs bus practice Unversioned h = given-refused bs bus practice _ (by_layout bs bus practice h)
given_layout bs bus practice Unfit h = given-refused bs bus practice _ (by_layout bs bus practice h)

pub given_over : (bs : List ℕ) (bus : ℕ) (practice : Bool) {n : ℕ} → Ok n ≡ layout_value bs → most_meters < n → MetersGiven bs bus practice (Err Capacity)
given_over bs bus practice {n} e h =
    let s = by_layout bs bus practice e in
    let m : capacity < length s.0 = omega (arith, s.2, capacity-is) in
    given-refused bs bus practice Capacity (s.3 ∙ records_over bus practice s.0 m)

-- ---- the records

module _ (bs : List ℕ) (bus : ℕ) (practice : Bool) (rs : List Listed) (opened : open_list_value bs bus practice ≡ open_records bus practice (fits rs)) (few : length rs ≤ most_meters) where
  abbrev all : Result Meters Refusal
  all = fold (take_in bus practice) (Ok no_meters_value) rs

  under : Under no_meters_value (length rs)
  unfolding no_meters_value
  under = record { places = length-replicate most_meters blank_meter_value; room = rw zero-add few }

  most : length rs ≤ capacity
  most = omega (arith, few, capacity-is)

  abbrev Given : Result Meters Refusal → Type 0
  Given = MetersGiven bs bus practice

  -- a record fails
  given_failing : {e : Refusal} → Err e ≡ all → Given (Err e)
  unfolding no_meters_value
  given_failing {e} w = go (all_pass_value rs) refl
    where
      go : (b : Bool) → all_pass_value rs ≡ b → Given (Err e)
      go true h = let t = all_taken bus practice no_meters_value rs under h in let z : Err e ≡ Ok t.to = w ∙ t.is in cc
      go false h =
          let s = one_stops bus practice no_meters_value rs under h in
          let z : Err e ≡ Err s.by = w ∙ s.is in
          let q : e ≡ s.by = cc in
          let n : error_number e ≡ first_number rs = ap error_number q ∙ s.number in
          let i : error_index e ≡ first_failing rs = ap error_index q ∙ s.index ∙ zero-add (first_failing rs) in
          given-refused bs bus practice e (opened ∙ records_failing bus practice rs most h ∙ λ j. refuses (sym n j) (sym i j))

  module _ {m : Meters} (w : Ok m ≡ all) where
    pass : all_pass_value rs ≡ true
    pass = go (all_pass_value rs) refl
      where
        go : (b : Bool) → all_pass_value rs ≡ b → all_pass_value rs ≡ true
        go true h = h
        go false h = let s = one_stops bus practice no_meters_value rs under h in let z : Ok m ≡ Err s.by = w ∙ s.is in cc

    -- the bus baud is none of the rates
    given_no_rate : is_rate_value rates bus ≡ false → Given (Err Baud)
    given_no_rate k = given-refused bs bus practice Baud (opened ∙ records_baud bus practice rs most pass k)

    -- all pass, at one of the rates
    given_opened : is_rate_value rates bus ≡ true → Given (Ok m)
    unfolding no_meters_value
    given_opened k =
        let t = all_taken bus practice no_meters_value rs under pass in
        let z : Ok m ≡ Ok t.to = w ∙ t.is in
        let q : m ≡ t.to = cc in
        let o : open_list_value bs bus practice ≡ opens (map (fresh bus practice) rs) = opened ∙ records_opened bus practice rs most pass k in
        record {
          number = ap number_in (sym o);
          index = ap index_in (sym o);
          count = ap (λ (x : Meters). x.count) q ∙ t.count ∙ zero-add (length rs) ∙ sym (length-map rs (fresh bus practice)) ∙ ap (λ (x : Opened). length (meters_in x)) (sym o);
          meters = ap (λ (x : Meters). map plain_meter (take x.count x.meters)) q ∙ t.meters ∙ ap meters_in (sym o);
        }

-- ---- by what is gathered

module _ (bs : List ℕ) (bus : ℕ) (practice : Bool) {n : ℕ} (e : Ok n ≡ layout_value bs) (h : n ≤ most_meters) where
  pub given_refused_record : {r : Refusal} → Err r ≡ gathered_of bus practice (read_from bs) → MetersGiven bs bus practice (Err r)
  unfolding gathered_of
  given_refused_record q = let s = by_layout bs bus practice e in given_failing bs bus practice s.0 s.3 (omega (arith, s.2)) (q ∙ ap (gathered_of bus practice) s.1)

  module _ {m : Meters} (q : Ok m ≡ gathered_of bus practice (read_from bs)) where
    pub given_baud : is_rate_value rates bus ≡ false → MetersGiven bs bus practice (Err Baud)
    unfolding gathered_of
    given_baud k = let s = by_layout bs bus practice e in given_no_rate bs bus practice s.0 s.3 (omega (arith, s.2)) (q ∙ ap (gathered_of bus practice) s.1) k

    pub given_meters_all : is_rate_value rates bus ≡ true → MetersGiven bs bus practice (Ok m)
    unfolding gathered_of
    given_meters_all k = let s = by_layout bs bus practice e in given_opened bs bus practice s.0 s.3 (omega (arith, s.2)) (q ∙ ap (gathered_of bus practice) s.1) k
