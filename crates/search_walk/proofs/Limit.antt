-- The model's search with an allowance: probes, spent or not, entries.
use mathlib.Core.Path.{◌≡◌, sym, ap, ◌∙◌}
use mathlib.Core.List.{List, [], ◌++◌}
use Prim.Native.Nat.{ℕ, ◌+◌, ◌*◌, ◌≤◌, min}
use native.Mathlib.Omega.{arith}
use lib.Dec.{ltb}
use lib.Seq.{take_all}
use lib.ListN.{take, drop, take-append-drop}
use Rattle.meter.specs.PlainMeter.{PlainMeter}
use Rattle.search_walk.specs.Walk.{Entry}
use Rattle.search_walk.specs.Entries.{D}
use Rattle.search_walk.proofs.Model.{model_search}
use Rattle.search_walk.proofs.Sums.{each_append}
use Rattle.search_walk.proofs.Cut.{trace, cut_entries, cut_left, cut_spent, walk-cut, all}
use Rattle.search_walk.proofs.Count.{trace_D}

unfoldable pub full : List PlainMeter → List Entry
full ms = all (trace 8 ms [])

pub search_probes : (ms : List PlainMeter) (a : ℕ) → (model_search ms a).probes ≡ min a (1 + 10 * D ms)
unfolding model_search
search_probes ms a = omega (arith, ap (λ r. r.left) (walk-cut 8 ms [] a), cut_left a (trace 8 ms []), trace_D ms)

pub search_spent : (ms : List PlainMeter) (a : ℕ) → (model_search ms a).spent ≡ ltb a (1 + 10 * D ms)
unfolding model_search
search_spent ms a = ap (λ r. r.spent) (walk-cut 8 ms [] a) ∙ cut_spent a (trace 8 ms []) ∙ ap (ltb a) (trace_D ms)

pub search_entries : (ms : List PlainMeter) (a : ℕ) → (model_search ms a).entries ≡ all (take a (trace 8 ms []))
unfolding model_search
search_entries ms a = ap (λ r. r.entries) (walk-cut 8 ms [] a) ∙ cut_entries a (trace 8 ms [])

pub search_full : (ms : List PlainMeter) (a : ℕ) → 1 + 10 * D ms ≤ a → (model_search ms a).entries ≡ full ms
unfolding full
search_full ms a h = search_entries ms a ∙ ap all (take_all a (trace 8 ms []) (omega (arith, trace_D ms)))

-- the entries so far are the first of all the entries
pub search_first : (ms : List PlainMeter) (a : ℕ) → full ms ≡ (model_search ms a).entries ++ all (drop a (trace 8 ms []))
unfolding full all
search_first ms a = rw search_entries (sym (sym (each_append (take a t) (drop a t) (λ e. e)) ∙ ap all (take-append-drop a t)))
  where
    t : List (List Entry)
    t = trace 8 ms []
