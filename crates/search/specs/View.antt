-- What the program's searches give, in the terms of the definitions.
use Rattle.std.specs.Prelude.{◌≡◌, List, [], ◌++◌, ℕ, ◌≤◌, length, take, drop, replicate, Result, Ok, Err, IfOk, OnErr}
use Rattle.laws.specs.Refusal.{not_refused, refused_clock, refused_not_empty, refused_entries}
use Rattle.time_clock.specs.declared.Clock.{Clock}
use Rattle.list_open.specs.Opening.{most_meters}
use Rattle.segment.specs.Plain.{Plain}
use Rattle.segment_image.specs.Image.{decode_image, Exact}
use Rattle.search.specs.declared.EntryRecord.{EntryRecord}
use Rattle.search.specs.declared.SearchError.{SearchError}
use Rattle.search.specs.declared.SearchError.TheVariants.{ClockOutOfRange, NotEmpty, TooFewLent}
use Rattle.search.specs.declared.Kind.TheVariants.{One}
use Rattle.search.specs.declared.Entries.{Entries}
use Rattle.search.specs.declared.Searched as answers
use Rattle.search.specs.SearchCall as definitions
use Rattle.search.specs.SearchCall.{search_call, search_refused}

-- 01's number of a refusal. 14: a clock field out of range; 16: input or queue not empty; 17: fewer entries lent than
-- meters opened
abbrev pub error_number : SearchError → ℕ
error_number ClockOutOfRange = refused_clock
error_number NotEmpty = refused_not_empty
error_number TooFewLent = refused_entries

-- a record that no entry was written to
abbrev pub no_entry : EntryRecord
no_entry = record { kind = One; digits = []; count = 0 }

-- a record to lend, before an entry is written to it
unfoldable pub blank_record : EntryRecord
blank_record = record { kind = One; digits = replicate 8 0; count = 0 }

-- ---- the search that writes the lent records

-- its answer, with the lent records and the segment afterwards
unfoldable pub searched_of : Result answers.Searched SearchError → List EntryRecord → Plain → definitions.Searched
searched_of (Ok r) lent after = record { number = not_refused; count = r.count; probes = r.probes; spent = r.spent; lent = lent; segment = after }
searched_of (Err e) lent after = search_refused (error_number e) lent after

-- It gives what 01's search of the segment that the image means gives into the records `lent`, which are `lent₁`
-- afterwards.
-- The image stays exact if it was; where the search is refused every byte stays.
pub record SearchesInto (old : List ℕ) (k : Clock) (allowance : ℕ) (lent : List EntryRecord) (r : Result answers.Searched SearchError) (lent₁ : List EntryRecord) (new : List ℕ) : Type 0 where
  pub gives : searched_of r lent₁ (decode_image new) ≡ search_call k allowance lent (decode_image old)
  pub exact : Exact old → Exact new
  pub kept : OnErr r (new ≡ old)

-- ---- the search that gives its entries by value

-- its answer, with its entries in front of the records `lent`, and the segment afterwards
abbrev pub entries_give : Result Entries SearchError → Plain → List EntryRecord → definitions.Searched
entries_give (Ok r) after lent =
    record {
      number = not_refused;
      count = r.count;
      probes = r.probes;
      spent = r.spent;
      lent = take r.count r.entries ++ drop r.count lent;
      segment = after;
    }
entries_give (Err e) after lent = search_refused (error_number e) lent after

-- It gives what 01's search of the segment that the image means gives into any `room` records lent; its entries fit
-- both the array and the room.
-- The image stays exact if it was; where the search is refused every byte stays.
pub record SearchesIn (old : List ℕ) (k : Clock) (allowance room : ℕ) (r : Result Entries SearchError) (new : List ℕ) : Type 0 where
  pub gives : (lent : List EntryRecord) → length lent ≡ room → entries_give r (decode_image new) lent ≡ search_call k allowance lent (decode_image old)
  pub fits : IfOk r (λ e. e.count ≤ most_meters)
  pub enough : IfOk r (λ e. e.count ≤ room)
  pub exact : Exact old → Exact new
  pub kept : OnErr r (new ≡ old)
