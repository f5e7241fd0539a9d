-- What the calls hand back, beside the segment.
use Rattle.std.specs.Prelude.{◌≡◌, Bool, List, ◌++◌, ℕ, ◌*◌, eqb, take, drop, if◌then◌else◌}
use Rattle.laws.specs.Words.{each}
use Rattle.list_open.specs.Opening.{number_in, index_in, open_list_value}
use Rattle.segment.specs.Plain.{Plain}
use Rattle.segment.specs.Calls.{receive, change_baud}
use Rattle.segment_send.specs.Send.{send, due_after}
use Rattle.search_walk.specs.Walk.{whole_walk}
use Rattle.search.specs.declared.EntryRecord.{EntryRecord}
use Rattle.search.specs.SearchCall.{Searched, search_call}
use Rattle.search.specs.Demanded.{Demanded}
use Rattle.c_search.specs.Searches.{search_by, records_for, entry_bytes_value, summary_of_value}
use Rattle.theorem_calls.specs.Call.{Call, opening, sending, receiving, clearing, changing, searching, searching_into}

-- opened: number, index
-- sent: number, how many bytes are due
-- received: how many bytes, the lent bytes afterwards
-- changed: number
-- searched: number, the bytes lent for entries afterwards, the summary afterwards
-- searched_into: number, count, probes, spent, the lent records afterwards
pub data Answer : Type 0 where
  opened : ℕ → ℕ → Answer
  sent : ℕ → ℕ → Answer
  received : ℕ → List ℕ → Answer
  cleared : Answer
  changed : ℕ → Answer
  searched : ℕ → List ℕ → List ℕ → Answer
  searched_into : ℕ → ℕ → ℕ → Bool → List EntryRecord → Answer

-- the entries found, 16 bytes each, "further ones stay"
abbrev pub entries_after : Searched → List ℕ → List ℕ
entries_after r entries = each (take r.count r.lent) entry_bytes_value ++ drop (16 * r.count) entries

-- count, probes, spent; a refused search writes none
abbrev pub summary_after : Searched → List ℕ → List ℕ
summary_after r summary = if eqb r.number 0 then summary_of_value r.count r.probes r.spent else summary

-- 01's answer to a call on the segment s. Which record a refused opening names is by Req 02, what is due after a send
-- by Req 01
abbrev pub answer_to : Plain → Call → Answer
answer_to s (opening list bus practice origin) = let o = open_list_value list bus practice in opened (number_in o) (index_in o)
answer_to s (sending piece k) = let d = send piece k s in sent d.number (due_after d)
answer_to s (receiving lent) = let r = receive lent s in received r.count r.lent
answer_to s clearing = cleared
answer_to s (changing baud) = changed (change_baud baud s).number
answer_to s (searching k allowance entries summary) =
    let r = search_by k allowance entries s in searched r.number (entries_after r entries) (summary_after r summary)
answer_to s (searching_into k allowance lent) =
    let r = search_call k allowance lent s in searched_into r.number r.count r.probes r.spent r.lent

-- A search that is not refused: its entries, probes, spent and segment are those of the walk over s; its price, when
-- it is spent, its entries, their order,
-- each meter in exactly one of them, and the bound
abbrev pub Demands : Plain → Call → Type 0
Demands s (opening list bus practice origin) = Unit {0}
Demands s (sending piece k) = Unit {0}
Demands s (receiving lent) = Unit {0}
Demands s clearing = Unit {0}
Demands s (changing baud) = Unit {0}
Demands s (searching k allowance entries summary) =
    let r = search_by k allowance entries s in r.number ≡ 0 → Demanded allowance (records_for entries) s (whole_walk k allowance s) r
Demands s (searching_into k allowance lent) =
    let r = search_call k allowance lent s in r.number ≡ 0 → Demanded allowance lent s (whole_walk k allowance s) r
