-- Whatever the calls, the segment stays well formed; so a search that is not refused is what demand 3 claims.
use mathlib.Core.Path.{◌≡◌, refl}
use mathlib.Core.List.{List}
use Prim.Native.Nat.{ℕ}
use Rattle.laws.proofs.Lists.{if_all}
use Rattle.time_clock.specs.declared.Clock.{Clock}
use Rattle.meter.specs.Meter.{rates}
use Rattle.list_check.specs.Tables.{is_rate_value}
use Rattle.segment.specs.Plain.{Plain}
use Rattle.segment.specs.Calls.{Done, receive, clear, change_baud}
use Rattle.segment_send.proofs.SendLaws.{ids, send_ids}
use Rattle.search_walk.proofs.Seen.{WellFormed}
use Rattle.search.proofs.WellLaws.{well_by_ids, opening_well, search_ids}
use Rattle.search.specs.declared.EntryRecord.{EntryRecord}
use Rattle.search.proofs.Demanded.{demanded}
use Rattle.c_search.specs.Searches.{search_by, records_for}
use Rattle.theorem_calls.specs.Call.{Call, opening, sending, receiving, clearing, changing, searching, searching_into, after_call}
use Rattle.theorem_calls.specs.Answer.{Demands}

pub after_well : (c : Call) (s : Plain) → WellFormed s → WellFormed (after_call c s)
unfolding after_call receive clear change_baud search_by
after_well (opening list bus practice origin) s w = opening_well list bus practice origin s w
after_well (sending piece k) s w = well_by_ids s _ (send_ids piece k s) w
after_well (receiving lent) s w = well_by_ids s _ refl w
after_well clearing s w = well_by_ids s _ refl w
after_well (changing b) s w = well_by_ids s _ (if_all (λ (d : Done). ids d.segment ≡ ids s) (is_rate_value rates b) _ _ refl refl) w
after_well (searching k a entries summary) s w = well_by_ids s _ (search_ids k a (records_for entries) s) w
after_well (searching_into k a lent) s w = well_by_ids s _ (search_ids k a lent s) w

demands_search : (k : Clock) (a : ℕ) (entries summary : List ℕ) (s : Plain) → WellFormed s → Demands s (searching k a entries summary)
unfolding search_by
demands_search k a entries summary s w = demanded k a (records_for entries) s w

demands_search_into : (k : Clock) (a : ℕ) (lent : List EntryRecord) (s : Plain) → WellFormed s → Demands s (searching_into k a lent)
demands_search_into k a lent s w = demanded k a lent s w

pub demands : (c : Call) (s : Plain) → WellFormed s → Demands s c
demands (opening list bus practice origin) s w = tt
demands (sending piece k) s w = tt
demands (receiving lent) s w = tt
demands clearing s w = tt
demands (changing b) s w = tt
demands (searching k a entries summary) s w = demands_search k a entries summary s w
demands (searching_into k a lent) s w = demands_search_into k a lent s w
