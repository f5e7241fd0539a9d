-- A search on an image: what it answers, and what it writes into the lent bytes. The words are the program's; the
-- search is 01's (search, specs/SearchCall.antt).
use Rattle.std.specs.Prelude.{◌≡◌, Bool, List, [], ◌∷◌, ◌++◌, ℕ, ◌*◌, ◌/◌, ◌<◌, length, take, drop, replicate}
use Rattle.laws.specs.Words.{at, bit_if, each}
use Rattle.numbers.specs.Values.{little}
use Rattle.time_clock.specs.declared.Clock.{Clock}
use Rattle.search.specs.declared.Kind.{Kind}
use Rattle.search.specs.declared.Kind.TheVariants.{One, Mute, Many}
use Rattle.search.specs.declared.EntryRecord.{EntryRecord}
use Rattle.search.specs.SearchCall.{Searched, search_call}
use Rattle.search.specs.View.{no_entry}
use Rattle.segment.specs.Plain.{Plain}
use Rattle.segment_image.specs.Image.{decode_image, Exact}

-- one, mute, many
abbrev pub kind_byte_value : Kind → ℕ
kind_byte_value One = 1
kind_byte_value Mute = 2
kind_byte_value Many = 3

-- the 16 bytes of an entry: kind, eight digits, count (four bytes, low byte first), three bytes 0
unfoldable pub entry_bytes_value : EntryRecord → List ℕ
entry_bytes_value e =
    let d = e.digits in
    kind_byte_value e.kind ∷ at d 0 ∷ at d 1 ∷ at d 2 ∷ at d 3 ∷ at d 4 ∷ at d 5 ∷ at d 6 ∷ at d 7 ∷ (little 4 e.count ++ 0 ∷ 0 ∷ 0 ∷ [])

-- entries, probes, spent: four bytes each, low byte first
abbrev pub summary_of_value : ℕ → ℕ → Bool → List ℕ
summary_of_value count probes spent = little 4 count ++ little 4 probes ++ little 4 (bit_if spent)

-- as many records as there are whole 16 bytes in the lent bytes; what stood in them has no part in what a search finds
abbrev pub records_for : List ℕ → List EntryRecord
records_for entries = replicate (length entries / 16) no_entry

-- 01's search of a segment into these records
unfoldable pub search_by : Clock → ℕ → List ℕ → Plain → Searched
search_by k allowance entries s = search_call k allowance (records_for entries) s

-- The answer is the search's number, the image means its segment, its entries are the first of the lent bytes,
-- further ones stay.
-- An image that was the one image of its segment is so afterwards.
-- Where the number is 0 the summary is written; else every byte of the image, of the entries and of the summary stays.
pub record Searches (want : Searched) (number : ℕ) (image image₁ entries entries₁ summary summary₁ : List ℕ) : Type 0 where
  pub answer : number ≡ want.number
  pub segment : decode_image image₁ ≡ want.segment
  pub exact : Exact image → Exact image₁
  pub written : entries₁ ≡ each (take want.count want.lent) entry_bytes_value ++ drop (16 * want.count) entries
  pub told : number ≡ 0 → summary₁ ≡ summary_of_value want.count want.probes want.spent
  pub image_kept : 0 < number → image₁ ≡ image
  pub entries_kept : 0 < number → entries₁ ≡ entries
  pub summary_kept : 0 < number → summary₁ ≡ summary
