-- What demand 3 claims of one search. theorem_calls/specs/Demand3 says it of the program's own routines, in every list
-- of calls.
use Rattle.std.specs.Prelude.{◌≡◌, true, List, ◌++◌, map, ℕ, ◌+◌, ◌*◌, ◌/◌, ◌^◌, ◌≤◌, min, length, drop}
use Rattle.segment.specs.Plain.{Plain}
use Rattle.search_walk.specs.Walk.{Walked}
use Rattle.search_walk.specs.Entries.{at_bus_baud, NoFlaky, D, sum_to}
use Rattle.search_walk.specs.Steady.{Steady}
use Rattle.search.specs.declared.EntryRecord.{EntryRecord}
use Rattle.search.specs.SearchCall.{record_of_value, Searched}

-- what a search gives, r, on the segment s with the walk w
pub record Demanded (allowance : ℕ) (lent : List EntryRecord) (s : Plain) (w : Walked) (r : Searched) : Type 0 where
  -- "In every case the entries, the number of probes .., spent or not, and the segment afterwards are those that the
  -- walk above gives over the plain segment"
  pub count : r.count ≡ length w.entries
  pub written : r.lent ≡ map record_of_value w.entries ++ drop (length w.entries) lent
  pub probes : r.probes ≡ w.probes
  pub spent : r.spent ≡ w.spent
  pub segment : r.segment ≡ w.segment
  -- "A spent search made exactly its allowance", in every case
  pub stopped : w.spent ≡ true → w.probes ≡ allowance
  -- no more entries than meters, in every case
  pub fits : length w.entries ≤ length s.meters
  -- more is claimed with no flaky meter at bus baud
  pub steady : NoFlaky s → Steady allowance (at_bus_baud s) w
  -- the bound on the price, in every case: over k = 0 to 7, the sum of the lesser of 10^k and n/2 rounded down, n the
  -- meters at bus baud
  pub bound : let n = length (at_bus_baud s) in 1 + 10 * D (at_bus_baud s) ≤ 1 + 10 * sum_to 8 (λ k. min (10 ^ k) (n / 2))
