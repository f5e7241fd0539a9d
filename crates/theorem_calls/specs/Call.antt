-- The calls with their arguments, and what they make of the plain segment: "it is fed the calls' arguments alone".
use Rattle.std.specs.Prelude.{Bool, List, [], ◌∷◌, ℕ, Float}
use Rattle.time_clock.specs.declared.Clock.{Clock}
use Rattle.segment.specs.Plain.{Plain}
use Rattle.segment.specs.Calls.{after_opening, receive, clear, change_baud}
use Rattle.segment_send.specs.Send.{send}
use Rattle.search.specs.declared.EntryRecord.{EntryRecord}
use Rattle.search.specs.SearchCall.{search_call}
use Rattle.c_search.specs.Searches.{search_by}

-- The exported calls, and the search over lent entry records. What is lent is an argument: the bytes, or records,
-- that stand there before the call.
-- opening: list, bus baud, practice flag, origin
-- sending: piece, clock
-- receiving: the lent bytes
-- changing: baud
-- searching: clock, allowance, the bytes lent for entries, the 12 bytes lent for the summary
-- searching_into: clock, allowance, the entry records lent
pub data Call : Type 0 where
  opening : List ℕ → ℕ → Bool → Float → Call
  sending : List ℕ → Clock → Call
  receiving : List ℕ → Call
  clearing : Call
  changing : ℕ → Call
  searching : Clock → ℕ → List ℕ → List ℕ → Call
  searching_into : Clock → ℕ → List EntryRecord → Call

-- the plain segment after a call
unfoldable pub after_call : Call → Plain → Plain
after_call (opening list bus practice origin) s = after_opening list bus practice origin s
after_call (sending piece k) s = (send piece k s).segment
after_call (receiving lent) s = (receive lent s).segment
after_call clearing s = clear s
after_call (changing baud) s = (change_baud baud s).segment
after_call (searching k allowance entries summary) s = (search_by k allowance entries s).segment
after_call (searching_into k allowance lent) s = (search_call k allowance lent s).segment

-- "Each call gets the segment as the one before left it"
unfoldable pub after_calls : List Call → Plain → Plain
after_calls [] s = s
after_calls (c ∷ cs) s = after_calls cs (after_call c s)
