-- Records taken in: if all pass, their fresh meters; else the first that fails, with its index and number.
use Rattle.std.specs.Prelude.{Result, Ok, Err}
use mathlib.Core.Path.{◌≡◌, refl, sym, ap, ◌∙◌}
use mathlib.Core.Bool.{Bool, true, false, ◌&&◌}
use mathlib.Core.List.{List, [], ◌∷◌, ◌++◌, map, append_assoc, append-nil, map-append}
use Prim.Native.Nat.{ℕ, suc, ◌+◌, ◌≤◌, ◌<◌}
use native.Mathlib.Nat.{add-zero}
use native.Mathlib.Numerals.{add-one}
use native.Mathlib.Omega.{arith}
use lib.Dec.{eqb}
use lib.ListN.{length, take, set, length-set}
use lib.Seq.{take-suc-set}
use borrow.Author.Tests.{eqb-true, eqb-false, ne_eqb}
use Rattle.std.proofs.lemmas.List.Folds.{fold_stays}
use Rattle.list_open.specs.Opening.{most_meters, first_failing}
use Rattle.std.specs.List.{fold}
use Rattle.laws.proofs.Lists.{and_l, and_r}
use Rattle.meter.specs.PlainMeter.{PlainMeter}
use Rattle.meter.specs.View.{plain_meter}
use Rattle.list.specs.Layout.{Listed}
use Rattle.list_check.specs.Check.{check, all_pass_value}
use Rattle.list_meter.specs.Fresh.{fresh}
use Rattle.list_check.specs.Checked.{values_of, failing_of, checked_of}
use Rattle.list_open.specs.ProgramGather.{at_index, take_in}
use Rattle.list_meter.specs.ProgramFresh.{fresh_of}
use Rattle.list_check.specs.Refusals.{error_number, error_index}
use Rattle.list_check.specs.declared.refusal.Refusal.{Refusal}
use Rattle.list_check.specs.declared.refusal.Refusal.TheVariants.{AtRecord}
use Rattle.list_open.specs.declared.Meters.{Meters}
use Rattle.list_meter.proofs.FreshLaws.{fresh-plain}
use Rattle.list_open.proofs.FirstLaws.{first_number, first-later, first_here, number-later, number_here}
use Rattle.list_open.proofs.GatherLaws.{stored, takes_meter, takes_failing}
use Rattle.list_check.proofs.VerdictLaws.{check-number}

-- the meters so far
abbrev pub so_far : Meters → List PlainMeter
so_far a = map plain_meter (take a.count a.meters)

-- an opening under way, with room for n records more
pub record Under (a : Meters) (n : ℕ) : Type 0 where
  pub places : length a.meters ≡ most_meters
  pub room : a.count + n ≤ most_meters

module _ (bus : ℕ) (practice : Bool) where
  -- ---- one record

  abbrev next : Meters → Listed → Meters
  next a r = stored a (fresh_of bus practice (values_of r))

  passed : (a : Meters) (r : Listed) (n : ℕ) → Under a (suc n) → check r ≡ 0 → take_in bus practice (Ok a) r ≡ Ok (next a r)
  unfolding checked_of
  passed a r n u h = let c : Ok (values_of r) ≡ checked_of r = rw h in takes_meter bus practice a r (omega (arith, u.room)) (ap (at_index a.count) c)

  failed : (a : Meters) (r : Listed) → (check r ≡ 0 → ⊥) → take_in bus practice (Ok a) r ≡ Err (AtRecord (failing_of (check r)) a.count)
  unfolding checked_of
  failed a r h = let c : Err (failing_of (check r)) ≡ checked_of r = rw (ne_eqb (check r) 0 h) in takes_failing bus practice a r (ap (at_index a.count) c)

  -- ---- all records

  pub record Taken (a : Meters) (rs : List Listed) (b : Result Meters Refusal) : Type 0 where
    pub to : Meters
    pub is : b ≡ Ok to
    pub count : to.count ≡ a.count + length rs
    pub meters : so_far to ≡ so_far a ++ map (fresh bus practice) rs

  after_one : (a : Meters) (r : Listed) (n : ℕ) → Under a (suc n) → Under (next a r) n
  after_one a r n u = record { places = length-set a.meters a.count (fresh_of bus practice (values_of r)) ∙ u.places; room = omega (arith, u.room) }

  so_far_one : (a : Meters) (r : Listed) (n : ℕ) → Under a (suc n) → check r ≡ 0 → so_far (next a r) ≡ so_far a ++ fresh bus practice r ∷ []
  so_far_one a r n u h =
      let m = fresh_of bus practice (values_of r) in
      let l : a.count < length a.meters = omega (arith, u.room, u.places) in
      ap (λ (k : ℕ). map plain_meter (take k (set a.meters a.count m))) (add-one a.count)
      ∙ ap (map plain_meter) (take-suc-set a.meters a.count m l)
      ∙ map-append plain_meter (take a.count a.meters) (m ∷ [])
      ∙ ap (λ (x : PlainMeter). so_far a ++ x ∷ []) (fresh-plain bus practice r h)

  pub all_taken : (a : Meters) (rs : List Listed) → Under a (length rs) → all_pass_value rs ≡ true → Taken a rs (fold (take_in bus practice) (Ok a) rs)
  all_taken a [] u h = record { to = a; is = refl; count = sym (add-zero a.count); meters = sym (append-nil (so_far a)) }
  all_taken a (r ∷ rs) u h =
      let z = eqb-true (check r) 0 (and_l (eqb (check r) 0) (all_pass_value rs) h) in
      let t = all_taken (next a r) rs (after_one a r (length rs) u) (and_r (eqb (check r) 0) (all_pass_value rs) h) in
      record {
        to = t.to;
        is = ap (λ (x : Result Meters Refusal). fold (take_in bus practice) x rs) (passed a r (length rs) u z) ∙ t.is;
        count = omega (arith, t.count);
        meters =
            t.meters
            ∙ ap (λ (x : List PlainMeter). x ++ map (fresh bus practice) rs) (so_far_one a r (length rs) u z)
            ∙ append_assoc (so_far a) (fresh bus practice r ∷ []) (map (fresh bus practice) rs);
      }

  -- the first record that fails, n records in front of these having passed
  pub record Stopped (n : ℕ) (rs : List Listed) (b : Result Meters Refusal) : Type 0 where
    pub by : Refusal
    pub is : b ≡ Err by
    pub index : error_index by ≡ n + first_failing rs
    pub number : error_number by ≡ first_number rs

  pub one_stops : (a : Meters) (rs : List Listed) → Under a (length rs) → all_pass_value rs ≡ false → Stopped a.count rs (fold (take_in bus practice) (Ok a) rs)
  one_stops a [] u h = let z : ◌≡◌ {A = ℕ} 0 1 = cc in absurd (omega arith)
  one_stops a (r ∷ rs) u h = go (eqb (check r) 0) refl h (one_stops (next a r) rs)
    where
      go : (t : Bool) → eqb (check r) 0 ≡ t → t && all_pass_value rs ≡ false
          → (Under (next a r) (length rs) → all_pass_value rs ≡ false → Stopped (a.count + 1) rs (fold (take_in bus practice) (Ok (next a r)) rs))
          → Stopped a.count (r ∷ rs) (fold (take_in bus practice) (Ok a) (r ∷ rs))
      go true e f more =
          let z = eqb-true (check r) 0 e in
          let s = more (after_one a r (length rs) u) f in
          let l = first-later r rs z in
          record {
            by = s.by;
            is = ap (λ (x : Result Meters Refusal). fold (take_in bus practice) x rs) (passed a r (length rs) u z) ∙ s.is;
            index = omega (arith, s.index, l);
            number = s.number ∙ sym (number-later r rs z);
          }
      go false e f more =
          let n = eqb-false (check r) 0 e in
          let l = first_here r rs e in
          record {
            by = AtRecord (failing_of (check r)) a.count;
            is = ap (λ (x : Result Meters Refusal). fold (take_in bus practice) x rs) (failed a r n) ∙ fold_stays (take_in bus practice) (Err (AtRecord (failing_of (check r)) a.count)) (λ r. refl) rs;
            index = omega (arith, l);
            number = check-number r n ∙ sym (number_here r rs e);
          }
