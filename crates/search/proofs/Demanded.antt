-- What demand 3 claims of a search holds of every well-formed segment.
use mathlib.Core.Path.{◌≡◌, sym, ap, ◌∙◌, subst}
use mathlib.Core.Bool.{true}
use mathlib.Core.List.{List, [], Memᴰ}
use Prim.Native.Nat.{ℕ, ◌+◌, ◌*◌, ◌/◌, ◌^◌, ◌≤◌, min}
use native.Mathlib.Omega.{arith}
use lib.ListN.{length}
use Rattle.laws.specs.Words.{Every}
use Rattle.laws.proofs.Lists.{every_keep}
use Rattle.time_clock.specs.declared.Clock.{Clock}
use Rattle.segment.specs.Plain.{Plain}
use Rattle.search_walk.specs.Walk.{probe, read, Walked, whole_walk}
use Rattle.search_walk.specs.Entries.{at_bus, at_bus_baud, D, sum_to}
use Rattle.search_walk.proofs.Seen.{IdDigits, WellFormed}
use Rattle.search_walk.proofs.Bound.{D_le}
use Rattle.search_walk.proofs.Price.{steady_by}
use Rattle.search_walk.proofs.Upward.{Counted, walk-counted, walk_down, whole-down}
use Rattle.search_walk.proofs.Instance.{ready, walk_found}
use Rattle.search_walk.proofs.Fits.{well_sized, walk-fits-meters}
use Rattle.search.specs.declared.EntryRecord.{EntryRecord}
use Rattle.search.specs.SearchCall.{Searched, search_call}
use Rattle.search.specs.Demanded.{Demanded}
use Rattle.search.proofs.Allowed.{Allowed, allowed_accepted, accepted_allowed}

every_mem : {A : Type 0} (P : A → Type 0) {x : A} {xs : List A} → Memᴰ x xs → Every P xs → P x
every_mem P (Memᴰ.head e) h = subst P (sym e) h.0
every_mem P (Memᴰ.tail m) h = every_mem P m h.1

-- ---- one search of a well-formed segment

module _ (k : Clock) (a : ℕ) (lent : List EntryRecord) (s : Plain) where
  spent_all : (whole_walk k a s).spent ≡ true → (whole_walk k a s).probes ≡ a
  unfolding walk_down Counted
  spent_all e =
      let c = walk-counted Plain (probe k) (read k) 8 [] a s in
      let l = c.1 (sym (ap (λ (w : Walked). w.spent) (whole-down k a s)) ∙ e) in
      omega (arith, ap (λ (w : Walked). w.probes) (whole-down k a s), l)

  search_demanded : WellFormed s → Allowed k lent s → Demanded a lent s (whole_walk k a s) (search_call k a lent s)
  search_demanded well h =
      let is = allowed_accepted k a lent s h in
      record {
        count = ap (λ r. r.count) is;
        written = ap (λ r. r.lent) is;
        probes = ap (λ r. r.probes) is;
        spent = ap (λ r. r.spent) is;
        segment = ap (λ r. r.segment) is;
        stopped = spent_all;
        fits = (walk-fits-meters k h.clock a s (record { input = h.input; queue = h.queue; sized = well_sized s well })).0;
        steady = λ f. steady_by a (at_bus_baud s) (whole_walk k a s) (walk_found k h.clock s (ready s h.input h.queue well f) a)
            (λ m here. every_mem (λ n. IdDigits n.digits) here (every_keep (λ n. IdDigits n.digits) (at_bus s.baud) s.meters well.ids));
        bound = omega (arith, D_le (at_bus_baud s));
      }

  -- one that is not refused
  pub demanded : WellFormed s → (search_call k a lent s).number ≡ 0 → Demanded a lent s (whole_walk k a s) (search_call k a lent s)
  demanded well e = search_demanded well (accepted_allowed k a lent s e)

-- the bound on the price asks nothing of the meters: it holds with a flaky one at bus baud too
pub bound_always : (a : ℕ) (lent : List EntryRecord) (s : Plain) (w : Walked) (r : Searched) → Demanded a lent s w r
    → 1 + 10 * D (at_bus_baud s) ≤ 1 + 10 * sum_to 8 (λ k. min (10 ^ k) (length (at_bus_baud s) / 2))
bound_always a lent s w r d = d.bound
