-- The loop of `gather`: the meters so far, and the records that are left; a turn, and its ends.
use Rattle.std.specs.Prelude.{Result, Ok, Err}
use mathlib.Core.Path.{◌≡◌, refl, sym, ap, ◌∙◌}
use mathlib.Core.Bool.{Bool}
use mathlib.Core.List.{List, [], ◌∷◌}
use Prim.Native.Nat.{ℕ, ◌+◌, ◌≤◌, ◌<◌}
use native.Mathlib.Omega.{arith}
use lib.ListN.{length, drop, set, length-drop, length-set, length-replicate}
use borrow.Author.Tests.{lt-ltb}
use Rattle.std.specs.List.{fold}
use Rattle.std.proofs.lemmas.List.Folds.{fold_stays}
use Rattle.meter.specs.declared.Meter.{Meter}
use Rattle.meter.specs.View.{blank_meter_value}
use Rattle.list.specs.Layout.{Listed, Layout, fits, no_fit, read_records}
use Rattle.list.specs.ProgramReading.{one, bad, end, step}
use Rattle.list.proofs.ReadLaws.{more, after_step, step_reads, step_shorter, reads_enough}
use Rattle.list_check.specs.Checked.{checked_of}
use Rattle.list_check.specs.declared.Values.{Values}
use Rattle.list_check.specs.declared.refusal.Refusal.{Refusal}
use Rattle.list_meter.specs.ProgramFresh.{fresh_of}
use Rattle.list_open.specs.Opening.{most_meters}
use Rattle.list_open.specs.ProgramGather.{no_meters_value, with_meter, with_record, at_index, take_in, gathered_of, Few}
use Rattle.list_open.specs.declared.Meters.{Meters}
use Rattle.list_open.proofs.LaidLaws.{laid_out}

-- a meter in the place of the count
abbrev pub stored : Meters → Meter → Meters
stored a m = record { meters = set a.meters a.count m; count = a.count + 1 }

module _ (bus : ℕ) (practice : Bool) where
  pub takes_meter : (a : Meters) (r : Listed) {v : Values} → a.count < most_meters → Ok v ≡ at_index a.count (checked_of r) → take_in bus practice (Ok a) r ≡ Ok (stored a (fresh_of bus practice v))
  unfolding with_record with_meter
  takes_meter a r {v} h e = ap (with_record bus practice a) (sym e) ∙ rw (lt-ltb a.count most_meters h)

  pub takes_failing : (a : Meters) (r : Listed) {e : Refusal} → Err e ≡ at_index a.count (checked_of r) → take_in bus practice (Ok a) r ≡ Err e
  unfolding with_record
  takes_failing a r e = ap (with_record bus practice a) (sym e)

-- one record more stands first
split_more : {left : List Listed} {r : Listed} (l : Layout) → fits left ≡ more r l → (rs : List Listed) × (l ≡ fits rs) × (left ≡ r ∷ rs)
split_more no_fit e = cc
split_more (fits rs) e = (rs, refl, cc)

-- a is gathered, and the bytes bs are left
pub record Gathered (s : List ℕ) (bus : ℕ) (practice : Bool) (bs : List ℕ) (a : Meters) : Type 0 where
  pub records : List Listed
  pub short : length bs ≤ length s
  pub read : read_records (length s) bs ≡ fits records
  pub room : a.count + length records ≤ most_meters
  pub places : length a.meters ≡ most_meters
  pub is : gathered_of bus practice (read_records (length s) (drop 3 s)) ≡ fold (take_in bus practice) (Ok a) records

pub gathered_none : {s bs : List ℕ} (bus : ℕ) (practice : Bool) {a : Meters} → Few s → bs ≡ drop 3 s → a ≡ no_meters_value → Gathered s bus practice bs a
unfolding gathered_of no_meters_value
gathered_none {s} {bs} bus practice {a} f e n =
    let l = laid_out s f.fits in
    record {
      records = l.0;
      short = rw (e, length-drop) (omega arith);
      read = rw e l.1;
      room = rw n (omega (arith, l.2, f.few));
      places = rw n (length-replicate most_meters blank_meter_value);
      is = rw (n, l.1);
    }

module _ {s : List ℕ} {bus : ℕ} {practice : Bool} {bs : List ℕ} {a : Meters} (g : Gathered s bus practice bs a) where
  next : read_records (length s) bs ≡ after_step (length s) (step bs)
  next = sym (reads_enough (length s) bs g.short) ∙ step_reads (length s) bs

  pub gathered_bad : bad ≡ step bs → ⊥
  gathered_bad q = let e : fits g.records ≡ no_fit = sym g.read ∙ next ∙ ap (after_step (length s)) (sym q) in cc

  pub gathered_end : end ≡ step bs → Ok a ≡ gathered_of bus practice (read_records (length s) (drop 3 s))
  gathered_end q =
      let e : fits g.records ≡ fits [] = sym g.read ∙ next ∙ ap (after_step (length s)) (sym q) in
      let f : g.records ≡ [] = cc in
      sym (g.is ∙ ap (fold (take_in bus practice) (Ok a)) f)

  module _ {r : Listed} {rest : List ℕ} (q : one r rest ≡ step bs) where
    split : (rs : List Listed) × (read_records (length s) rest ≡ fits rs) × (g.records ≡ r ∷ rs)
    split = split_more (read_records (length s) rest) (sym g.read ∙ next ∙ ap (after_step (length s)) (sym q))

    pub gathered_room : a.count < most_meters
    gathered_room = let l = ap length split.2 in omega (arith, g.room, l)

    pub gathered_fails : {e : Refusal} → Err e ≡ at_index a.count (checked_of r) → Err e ≡ gathered_of bus practice (read_records (length s) (drop 3 s))
    gathered_fails {e} h =
        sym (g.is ∙ ap (fold (take_in bus practice) (Ok a)) split.2 ∙ ap (λ (x : Result Meters Refusal). fold (take_in bus practice) x split.0) (takes_failing bus practice a r h)
        ∙ fold_stays (take_in bus practice) (Err e) (λ r. refl) split.0)

    pub gathered_more : {v : Values} {m : Meter} → Ok v ≡ at_index a.count (checked_of r) → m ≡ fresh_of bus practice v → Gathered s bus practice rest (stored a m)
    gathered_more {v} {m} e w =
        let l = ap length split.2 in
        record {
          records = split.0;
          short = omega (arith, g.short, step_shorter bs q);
          read = split.1;
          room = omega (arith, g.room, l);
          places = length-set a.meters a.count m ∙ g.places;
          is =
              g.is ∙ ap (fold (take_in bus practice) (Ok a)) split.2
              ∙ ap (λ (x : Result Meters Refusal). fold (take_in bus practice) x split.0) (takes_meter bus practice a r gathered_room e ∙ ap (λ (x : Meter). Ok (stored a x)) (sym w));
        }
