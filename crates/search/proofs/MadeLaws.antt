-- A search in an image that was made: it went 01's walk.
use Rattle.std.specs.Prelude.{Ok}
use mathlib.Core.Path.{◌≡◌, sym, ap, ap₂, ◌∙◌, subst}
use mathlib.Core.Bool.{true}
use mathlib.Core.List.{List, [], ◌++◌, map}
use Prim.Native.Nat.{ℕ, ◌≤◌}
use native.Mathlib.Omega.{arith}
use lib.ListN.{length, take, drop, length-map}
use Rattle.laws.specs.Refusal.{not_refused}
use Rattle.laws.specs.Words.{Every}
use Rattle.laws.proofs.Lists.{every_map}
use Rattle.meter.specs.PlainMeter.{PlainMeter}
use Rattle.time_clock.specs.declared.Clock.{Clock}
use Rattle.list_open.specs.Opening.{capacity}
use Rattle.segment.specs.Plain.{Plain, with_meters}
use Rattle.time_clock.specs.Fields.{good_clock_value}
use Rattle.segment_image.specs.Image.{decode_image}
use Rattle.segment_places.specs.ProgramBecomes.{Becomes}
use Rattle.segment_places.proofs.Becoming.{becomes_as}
use Rattle.segment_places.proofs.PlaceLaws.{meters_few}
use Rattle.segment_send.proofs.SendLaws.{at_rest_value}
use Rattle.search_walk.specs.Walk.{Walked, whole_walk}
use Rattle.search_walk.proofs.Program.{held_all}
use Rattle.search_walk.proofs.Fits.{Idle, walk-fits-meters}
use Rattle.search_packed.specs.ProgramPacked.{PackedRun, Walking, packed_whole, walk_all_value}
use Rattle.search.specs.declared.EntryRecord.{EntryRecord}
use Rattle.search.specs.SearchCall.{record_of_value, search_gave}
use Rattle.search.specs.ProgramPacking.{key_of_value, mark_of_value, packed, Bounded, unmarked, record_in}
use Rattle.search.specs.View.{searched_of}
use Rattle.search.specs.ProgramSearch.{packed_walk_of, Walks}
use Rattle.search.proofs.KeyDigits.{digits_eight}
use Rattle.search.proofs.PackStart.{packed_hold, packed_seen, swept_seen}
use Rattle.search.proofs.PackedProbe.{seen_all}
use Rattle.search.proofs.PackedWalk.{whole_same}

-- ---- what the walk over packed meters gives

module _ (old new : List ℕ) (allowance : ℕ) (ks ss : List ℕ) where
  pub walks : ks ≡ packed key_of_value (decode_image old).meters → ss ≡ packed (mark_of_value (decode_image old).baud) (decode_image old).meters → Every Bounded (decode_image old).meters
      → {w : Walking} → w ≡ walk_all_value ks ss allowance → Becomes old (unmarked w.run.marks (decode_image old)) new → length w.run.marks ≡ capacity
      → Walks old allowance w new
  unfolding packed_walk_of
  walks k m b e u l = record { run = ap (λ (w : Walking). w.run) e ∙ ap₂ (λ x y. packed_whole x y allowance) k m; image = u; marks = l; bounded = b }

-- ---- a search that was made

module _ (old : List ℕ) (k : Clock) (allowance : ℕ) (w : Walking) (new : List ℕ) (gc : good_clock_value k ≡ true) (i : (decode_image old).input ≡ []) (q : (decode_image old).queue ≡ []) (x : Walks old allowance w new) where
  abbrev s : Plain
  s = decode_image old

  abbrev v : Walked
  v = whole_walk k allowance s

  abbrev t : PackedRun
  t = packed_walk_of s allowance

  few : length s.meters ≤ capacity
  unfolding capacity
  few = meters_few old

  -- a segment with other meters, and with no input and no queue as it is
  at_rest : (ms ns : List PlainMeter) → ms ≡ ns → with_meters ms s ≡ at_rest_value s.baud s.origin ns
  at_rest ms ns e = λ j. record { baud = s.baud; origin = s.origin; input = i j; queue = q j; meters = e j }

  idle : Idle s
  idle =
      record {
        input = i;
        queue = q;
        sized = record { few = few; eight = every_map (λ m z. ap length z.digits ∙ digits_eight (key_of_value m)) s.meters x.bounded };
      }

  same : (map record_in t.entries ≡ take capacity (map record_of_value v.entries)) × (t.probes ≡ v.probes) × (t.spent ≡ v.spent)
      × (at_rest_value s.baud s.origin (seen_all s.baud s.meters t.marks) ≡ v.segment)
  unfolding packed_walk_of
  same =
      subst (λ (p : Plain). let v = whole_walk k allowance p in
      (map record_in t.entries ≡ take capacity (map record_of_value v.entries)) × (t.probes ≡ v.probes) × (t.spent ≡ v.spent)
      × (at_rest_value s.baud s.origin (seen_all s.baud s.meters t.marks) ≡ v.segment))
      (sym (at_rest s.meters _ (sym (packed_seen s.baud s.meters x.bounded))))
      (whole_same k s.baud s.origin gc allowance s.meters (packed key_of_value s.meters) few (packed (mark_of_value s.baud) s.meters)
      (packed_hold s.baud s.meters x.bounded))

  pub fitting : length v.entries ≤ length s.meters
  fitting = (walk-fits-meters k gc allowance s idle).0

  entries_are : map record_in t.entries ≡ map record_of_value v.entries
  entries_are = same.0 ∙ held_all record_of_value capacity v.entries (omega (arith, fitting, few))

  pub count_is : length w.run.entries ≡ length v.entries
  count_is = ap (λ (t : PackedRun). length t.entries) x.run ∙ sym (length-map t.entries record_in) ∙ ap length entries_are ∙ length-map v.entries record_of_value

  segment_is : decode_image new ≡ v.segment
  segment_is =
      (becomes_as (ap (λ (t : PackedRun). unmarked t.marks s) x.run) x.image).means
      ∙ at_rest _ _ (swept_seen s.baud t.marks s.meters (omega (arith, few, x.marks, ap (λ (t : PackedRun). length t.marks) x.run))) ∙ same.3

  pub made : (lent after : List EntryRecord) (n : ℕ) → n ≡ length w.run.entries → after ≡ map record_in w.run.entries ++ drop (length w.run.entries) lent
      → searched_of (Ok (record { count = n; probes = w.run.probes; spent = w.run.spent })) after (decode_image new) ≡ search_gave lent v
  unfolding searched_of
  made lent after n c e = λ j. record {
    number = not_refused;
    count = (c ∙ count_is) j;
    probes = (ap (λ (t : PackedRun). t.probes) x.run ∙ same.1) j;
    spent = (ap (λ (t : PackedRun). t.spent) x.run ∙ same.2) j;
    lent = (e ∙ ap₂ (λ y z. y ++ drop z lent) (ap (λ (t : PackedRun). map record_in t.entries) x.run ∙ entries_are) count_is) j;
    segment = segment_is j;
  }
