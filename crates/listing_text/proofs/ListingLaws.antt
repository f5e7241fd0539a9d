-- What is written for a list, by what the opening and the search give.
use Rattle.std.specs.Prelude.{Result, Ok, Err}
use mathlib.Core.Path.{◌≡◌, sym, ap, ap₂, subst, ◌∙◌}
use mathlib.Core.Bool.{false}
use mathlib.Core.List.{List, []}
use Prim.Native.Nat.{ℕ}
use Rattle.time_seconds.specs.Seconds.{zero_seconds}
use lib.ListN.{take, replicate}
use borrow.Author.Tests.{ne_eqb}
use Rattle.search.specs.Site.{site, october}
use Rattle.time_clock.specs.declared.Clock.{Clock}
use Rattle.list_open.specs.Opening.{number_in, index_in, open_list_value, capacity}
use Rattle.segment.specs.Plain.{Plain, blank}
use Rattle.segment.specs.Calls.{after_opening}
use Rattle.list_check.specs.declared.refusal.Refusal.{Refusal}
use Rattle.list_check.specs.Refusals.{refusal_number_value, refusal_index_value}
use Rattle.segment_image.specs.Image.{decode_image, IsImage}
use Rattle.segment_image.specs.Answers.{OpenedImage}
use Rattle.search.specs.declared.EntryRecord.{EntryRecord}
use Rattle.search.specs.declared.Searched as answers
use Rattle.search.specs.declared.SearchError.{SearchError}
use Rattle.search.specs.View.{blank_record, searched_of, SearchesInto}
use Rattle.search.specs.SearchCall.{Searched, search_call}
use Rattle.listing_text.specs.Text.{report_of, refusal_of, Prints}
use Rattle.listing_text.specs.Listing.{lent_records, list_in, listed_search, listing_text_value, listing_of}
use Rattle.listing_text.specs.ProgramListing.{OpensSite}

text_refused : (n : ℕ) (r : Searched) → (n ≡ 0 → ⊥) → listing_text_value n r ≡ refusal_of n
unfolding listing_text_value
text_refused n r h = rw (ne_eqb n 0 h)

-- a list opened in the image of a new segment
pub opens_site : {l m : List ℕ} {r : Result (Unit {0}) Refusal} {old new : List ℕ} → l ≡ m → IsImage blank old → OpenedImage l 2400 false zero_seconds (refusal_number_value r) (refusal_index_value r) old new → OpensSite m r new
unfolding site
opens_site {l} {m} {r} e i o =
    record {
      number = o.number_is ∙ ap (λ (x : List ℕ). number_in (open_list_value x 2400 false)) e;
      index = o.index_is ∙ ap (λ (x : List ℕ). index_in (open_list_value x 2400 false)) e;
      segment = o.segment ∙ ap₂ (λ (x : List ℕ) (s : Plain). after_opening x 2400 false zero_seconds s) e i.means;
    }

-- a search into blank records
into_blank : (old new : List ℕ) (k : Clock) (x : EntryRecord) → x ≡ blank_record → (y : Result answers.Searched SearchError) (after : List EntryRecord) → SearchesInto old k 10000 (replicate capacity x) y after new
    → searched_of y after (decode_image new) ≡ search_call k 10000 lent_records (decode_image old)
unfolding lent_records blank_record
into_blank old new k x w y after c = c.gives ∙ ap (λ (e : EntryRecord). search_call k 10000 (replicate capacity e) (decode_image old)) w

-- the opening's number
abbrev pub opened_as : List ℕ → ℕ
opened_as input = number_in (open_list_value (list_in input) 2400 false)

module _ (input : List ℕ) {lent out : List ℕ} {r : ℕ} where
  pub lists_refusal : (n : ℕ) → n ≡ opened_as input → (n ≡ 0 → ⊥) → Prints lent (refusal_of n) r out → Prints lent (listing_of input) r out
  unfolding listing_of
  lists_refusal n e h p =
      let t : refusal_of n ≡ listing_of input = sym (text_refused n (listed_search (list_in input)) h) ∙ ap (λ (x : ℕ). listing_text_value x (listed_search (list_in input))) e in
      subst (λ (t : List ℕ). Prints lent t r out) t p

  -- a search in the image `old`
  module _ (old new : List ℕ) (k : Clock) (e : 0 ≡ opened_as input) (a : decode_image old ≡ site (list_in input)) (b : k ≡ october) where
    listed_as : {q : Searched} → q ≡ search_call k 10000 lent_records (decode_image old) → Prints lent (report_of (take q.count q.lent) q.probes) r out → Prints lent (listing_of input) r out
    unfolding listed_search listing_of listing_text_value
    listed_as {q} g p =
        let t : report_of (take q.count q.lent) q.probes ≡ listing_text_value 0 (listed_search (list_in input)) =
        ap (listing_text_value 0) (g ∙ ap₂ (λ (x : Clock) (y : Plain). search_call x 10000 lent_records y) b a) in
        subst (λ (t : List ℕ). Prints lent t r out) (t ∙ ap (λ (x : ℕ). listing_text_value x (listed_search (list_in input))) e) p

    module _ (x : EntryRecord) (w : x ≡ blank_record) where
      pub lists_report : (f : answers.Searched) (after es : List EntryRecord) → SearchesInto old k 10000 (replicate capacity x) (Ok f) after new → es ≡ take f.count after
          → Prints lent (report_of es f.probes) r out → Prints lent (listing_of input) r out
      unfolding searched_of
      lists_report f after es c g p =
          listed_as (into_blank old new k x w (Ok f) after c) (subst (λ (xs : List EntryRecord). Prints lent (report_of xs f.probes) r out) g p)

      -- a search that is refused finds nothing
      pub lists_none : (y : SearchError) (after : List EntryRecord) → SearchesInto old k 10000 (replicate capacity x) (Err y) after new → Prints lent (report_of [] 0) r out → Prints lent (listing_of input) r out
      unfolding searched_of
      lists_none y after c p = listed_as (into_blank old new k x w (Err y) after c) p
