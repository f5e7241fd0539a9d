-- 01, "The listing program": what it writes for what it reads.
use Rattle.std.specs.Prelude.{false, List, ℕ, eqb, take, replicate, if◌then◌else◌}
use Rattle.search.specs.Site.{site, october}
use Rattle.list_open.specs.Opening.{number_in, open_list_value, capacity}
use Rattle.search.specs.declared.EntryRecord.{EntryRecord}
use Rattle.search.specs.declared.Kind.TheVariants.{One}
use Rattle.search.specs.SearchCall.{Searched, search_call}
use Rattle.listing_text.specs.Text.{report_of, refusal_of}

-- The records lent to the search, one for each meter that a list can have. What stands in them is not written.
unfoldable pub lent_records : List EntryRecord
lent_records = replicate capacity (record { kind = One; digits = replicate 8 0; count = 0 })

-- "allowance 10,000"
unfoldable pub listed_search : List ℕ → Searched
listed_search list = search_call october 10000 lent_records (site list)

-- the text by the opening's number: "A refused list prints `refused` and the number."
unfoldable pub listing_text_value : ℕ → Searched → List ℕ
listing_text_value number r = if eqb number 0 then report_of (take r.count r.lent) r.probes else refusal_of number

-- "Input past 65,536 bytes is not read."
unfoldable pub list_in : List ℕ → List ℕ
list_in input = take 65536 input

-- what is written; a number of 4 to 9 is that of the first record that fails (Req 02)
unfoldable pub listing_of : List ℕ → List ℕ
listing_of input = listing_text_value (number_in (open_list_value (list_in input) 2400 false)) (listed_search (list_in input))
