-- The plain segment is faithful where no flaky meter is at bus baud.
use Rattle.std.specs.Prelude.{if◌then◌else◌}
use mathlib.Core.Path.{◌≡◌, refl, sym, ap, ◌∙◌, subst}
use mathlib.Core.Bool.{Bool, true, false, false≢true}
use mathlib.Core.List.{List, [], ◌∷◌}
use Prim.Native.Nat.{ℕ, ◌-◌, ◌≤◌}
use lib.Ieee.{Float}
use lib.ListN.{length}
use Rattle.laws.specs.Words.{keep, Every}
use Rattle.laws.proofs.Lists.{every_map, every_both}
use Rattle.meter.specs.PlainMeter.{PlainMeter}
use Rattle.time_clock.specs.declared.Clock.{Clock}
use Rattle.meter.specs.Meter.{flaky}
use Rattle.list_open.specs.Opening.{capacity}
use Rattle.segment.specs.Plain.{Plain}
use Rattle.time_clock.specs.Fields.{good_clock_value}
use Rattle.segment_send.proofs.SendLaws.{at_rest_value}
use Rattle.search_walk.specs.Walk.{probe, read, whole_walk}
use Rattle.search_walk.specs.Entries.{at_bus, at_bus_baud, NoFlaky, having, lone_entry}
use Rattle.search_walk.proofs.Model.{no_digit, Run, model_search}
use Rattle.search_walk.proofs.Seen.{IdDigits, WellFormed, seen_in}
use Rattle.search_walk.proofs.Price.{found_by, search_seen}
use Rattle.search_walk.proofs.Faithful.{Faithful, Agree, walk_same}
use Rattle.search_walk.proofs.Upward.{walk_down, whole-down}
use Rattle.search_walk.proofs.SteadyMeters.{Fine, probe_count', probe_state', probe_seen', fine_probed, few_probed, fine_read, few_read, read_state', read_entry', read_seen'}

-- ---- a segment that a search may begin or go on with

pub record Ready (s : Plain) : Type 0 where
  pub input : s.input ≡ []
  pub queue : s.queue ≡ []
  pub well : WellFormed s
  pub steady : Every (λ m. at_bus s.baud m ≡ true → flaky m.fault ≡ false) s.meters

pub rest-is : (s : Plain) → s.input ≡ [] → s.queue ≡ [] → s ≡ at_rest_value s.baud s.origin s.meters
rest-is s h q = λ i. record { baud = s.baud; origin = s.origin; input = h i; queue = q i; meters = s.meters }

-- ---- the instance

fine_of : (s : Plain) → Ready s → Every (Fine s.baud) s.meters
fine_of s r = every_both (λ m. IdDigits m.digits) (λ m. at_bus s.baud m ≡ true → flaky m.fault ≡ false) s.meters r.well.ids r.steady

ready_rest : (b : ℕ) (o : Float) (ms : List PlainMeter) → Every (Fine b) ms → length ms ≤ capacity → Ready (at_rest_value b o ms)
ready_rest b o ms fine few =
    record {
      input = refl;
      queue = refl;
      well = record { few = few; ids = every_map (λ m f. f.0) ms fine };
      steady = every_map (λ m f. f.1) ms fine;
    }

pub plain_faithful : (k : Clock) → good_clock_value k ≡ true → Faithful Plain (probe k) (read k)
plain_faithful k gc =
    record {
      Inv = Ready;
      seen = seen_in;
      probe_inv = λ p w s i. back s i (λ x. Ready (probe k p x).1) (subst Ready (sym (probe_state' k gc s.baud s.origin p w s.meters (fine_of s i) i.well.few))
          (ready_rest s.baud s.origin _ (fine_probed k gc s.baud s.origin p w s.meters (fine_of s i) i.well.few) (few_probed k gc s.baud s.origin p w s.meters (fine_of s i) i.well.few)));
      probe_count = λ p w s i. back s i (λ x. (probe k p x).0 ≡ length (having (seen_in x) p)) (probe_count' k gc s.baud s.origin p w s.meters (fine_of s i) i.well.few);
      probe_seen = λ p w s i. back s i (λ x. seen_in (probe k p x).1 ≡ seen_in x)
          (ap seen_in (probe_state' k gc s.baud s.origin p w s.meters (fine_of s i) i.well.few) ∙ probe_seen' k gc s.baud s.origin p w s.meters (fine_of s i) i.well.few);
      read_inv = λ p w s m i e. back s i (λ x. Ready (read k p (probe k p x).1).1) (subst Ready (sym (read_state' k gc s.baud s.origin p w s.meters (fine_of s i) i.well.few))
          (ready_rest s.baud s.origin _ (fine_read k gc s.baud s.origin p w s.meters (fine_of s i) i.well.few) (few_read k gc s.baud s.origin p w s.meters (fine_of s i) i.well.few)));
      read_entry = λ p w s m i e. back s i (λ x. (read k p (probe k p x).1).0 ≡ lone_entry p m) (read_entry' k gc s.baud s.origin p w s.meters (fine_of s i) i.well.few m e);
      read_seen = λ p w s m i e. back s i (λ x. Agree p (seen_in x) (seen_in (read k p (probe k p x).1).1))
          (subst (λ y. Agree p (seen_in s) (seen_in y)) (sym (read_state' k gc s.baud s.origin p w s.meters (fine_of s i) i.well.few)) (read_seen' k gc s.baud s.origin p w s.meters (fine_of s i) i.well.few));
    }
  where
    back : (s : Plain) → Ready s → (P : Plain → Type 0) → P (at_rest_value s.baud s.origin s.meters) → P s
    back s i P h = subst P (sym (rest-is s i.input i.queue)) h

-- ---- the walk finds what the model finds

pub ready : (s : Plain) → s.input ≡ [] → s.queue ≡ [] → WellFormed s → NoFlaky s → Ready s
ready s input queue well steady = record { input = input; queue = queue; well = well; steady = kept s.meters steady }
  where
    kept : (ms : List PlainMeter) → Every (λ m. flaky m.fault ≡ false) (keep (at_bus s.baud) ms) → Every (λ m. at_bus s.baud m ≡ true → flaky m.fault ≡ false) ms
    kept [] h = tt
    kept (m ∷ ms) h = go (at_bus s.baud m) h (kept ms)
      where
        go : (b : Bool) → Every (λ m. flaky m.fault ≡ false) (if b then m ∷ keep (at_bus s.baud) ms else keep (at_bus s.baud) ms)
            → (Every (λ m. flaky m.fault ≡ false) (keep (at_bus s.baud) ms) → Every (λ m. at_bus s.baud m ≡ true → flaky m.fault ≡ false) ms)
            → (b ≡ true → flaky m.fault ≡ false) × Every (λ m. at_bus s.baud m ≡ true → flaky m.fault ≡ false) ms
        go true h r = (λ e. h.0, r h.1)
        go false h r = (λ e. absurd (false≢true e), r h)

pub walk_found : (k : Clock) → good_clock_value k ≡ true → (s : Plain) → Ready s → (a : ℕ) → found_by (whole_walk k a s) ≡ model_search (at_bus_baud s) a
unfolding plain_faithful walk_down model_search
walk_found k gc s r a =
    ap found_by (whole-down k a s)
    ∙ ap (λ (u : Run). record { entries = u.entries; probes = a - u.left; spent = u.spent }) (walk_same Plain (probe k) (read k) (plain_faithful k gc) 8 [] no_digit refl a s r).0
    ∙ search_seen (at_bus_baud s) a
