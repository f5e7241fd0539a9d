-- With no flaky meter: the price, the stop, the entries, their order, and each meter in exactly one.
use mathlib.Core.Path.{◌≡◌, refl, sym, ap, ap₂, ◌∙◌, fun_ext}
use mathlib.Core.Bool.{true, false}
use mathlib.Core.List.{List, [], ◌∷◌, ◌++◌, map, Memᴰ}
use Prim.Native.Nat.{ℕ, zero, suc, ◌+◌, ◌*◌, ◌≤◌, ◌<◌}
use native.Mathlib.Omega.{arith}
use lib.Dec.{ltb}
use lib.ListN.{length, drop, length-map}
use borrow.Author.Tests.{ltb-true, ltb-false, lt-ltb}
use Rattle.laws.proofs.Lists.{keep-map}
use Rattle.meter.specs.PlainMeter.{PlainMeter}
use Rattle.search_walk.specs.Walk.{many, ten, Walked}
use Rattle.search_walk.specs.Entries.{begins, having, D}
use Rattle.search_walk.specs.Steady.{Steady}
use Rattle.search_walk.proofs.Model.{Run, on, model_row, heard, model_walk, Found, model_search}
use Rattle.search_walk.proofs.Seen.{IdDigits, seen_of}
use Rattle.search_walk.proofs.Cut.{trace, all}
use Rattle.search_walk.proofs.Limit.{full, search_probes, search_spent, search_full, search_first}
use Rattle.search_walk.proofs.Declared.{full_declared}
use Rattle.search_walk.proofs.Once.{in_one}
use Rattle.search_walk.proofs.Rising.{full_rising}

-- ---- the walk needs no more of a meter than a search can tell

having_seen : (ms : List PlainMeter) (p : List ℕ) → having (map seen_of ms) p ≡ map seen_of (having ms p)
having_seen ms p = keep-map (λ m. begins p m.digits) seen_of ms

heard_seen : (p : List ℕ) (hs : List PlainMeter) (more : ℕ → Run) (a : ℕ) → heard p (map seen_of hs) more a ≡ heard p hs more a
heard_seen p [] more a = refl
heard_seen p (m ∷ []) more a = refl
heard_seen p (m ∷ n ∷ hs) more a = refl

walk_seen : (u : ℕ) (ms : List PlainMeter) (p : List ℕ) (a : ℕ) → model_walk u (map seen_of ms) p a ≡ model_walk u ms p a
unfolding model_walk
walk_seen zero ms p zero = refl
walk_seen zero ms p (suc a) =
    ap (λ hs. heard p hs (on (many p (length hs) ∷ [])) a) (having_seen ms p)
    ∙ ap (λ n. heard p (map seen_of (having ms p)) (on (many p n ∷ [])) a) (length-map (having ms p) seen_of)
    ∙ heard_seen p (having ms p) (on (many p (length (having ms p)) ∷ [])) a
walk_seen (suc u) ms p zero = refl
walk_seen (suc u) ms p (suc a) =
    ap₂ (λ hs (f : ℕ → ℕ → Run). heard p hs (model_row ten f) a) (having_seen ms p) (fun_ext λ d. fun_ext (walk_seen u ms (p ++ d ∷ [])))
    ∙ heard_seen p (having ms p) (model_row ten (λ d. model_walk u ms (p ++ d ∷ []))) a

pub search_seen : (ms : List PlainMeter) (a : ℕ) → model_search (map seen_of ms) a ≡ model_search ms a
unfolding model_search
search_seen ms a = rw (walk_seen 8 ms [] a)

-- ---- what the model finds, of a walk

abbrev pub found_by : Walked → Found
found_by w = record { entries = w.entries; probes = w.probes; spent = w.spent }

pub steady_by : (a : ℕ) (ms : List PlainMeter) (w : Walked) → found_by w ≡ model_search ms a → ((m : PlainMeter) → Memᴰ m ms → IdDigits m.digits) → Steady a ms w
steady_by a ms w e ids =
    record {
      spent = (short, λ h. spent_is ∙ lt-ltb a (1 + 10 * D ms) h);
      so_far = λ s. (all (drop a (trace 8 ms [])), sym (full_declared ms) ∙ search_first ms a ∙ ap (λ (r : Found). r.entries ++ all (drop a (trace 8 ms []))) (sym e));
      complete = λ s.
          let same : w.entries ≡ full ms = ap (λ (r : Found). r.entries) e ∙ search_full ms a (enough s) in
          record {
            probes = omega (arith, ap (λ (r : Found). r.probes) e, search_probes ms a, enough s);
            entries = same ∙ full_declared ms;
            rising = rw same (full_rising ms);
            once = λ m here. rw same (in_one m ms here (ids m here).1 (ids m here).0);
          };
    }
  where
    spent_is : w.spent ≡ ltb a (1 + 10 * D ms)
    spent_is = ap (λ (r : Found). r.spent) e ∙ search_spent ms a

    short : w.spent ≡ true → a < 1 + 10 * D ms
    short s = ltb-true a (1 + 10 * D ms) (sym spent_is ∙ s)

    enough : w.spent ≡ false → 1 + 10 * D ms ≤ a
    enough s = ltb-false a (1 + 10 * D ms) (sym spent_is ∙ s)
