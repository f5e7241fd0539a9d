-- A search on an image as numbers and bytes, from what the search in the image gives.
use Rattle.std.specs.Prelude.{Result, Ok, Err}
use mathlib.Core.Path.{◌≡◌, refl, sym, ap, ◌∙◌}
use mathlib.Core.List.{List, [], ◌∷◌, ◌++◌}
use Prim.Native.Nat.{ℕ, ◌+◌, ◌*◌, ◌/◌, ◌<◌, ◌≤◌, min}
use native.Mathlib.Omega.{arith}
use lib.ListN.{length, take, drop, replicate, length-replicate}
use lib.Seq.{take_at, length-take-le}
use Rattle.list_open.specs.Opening.{most_meters}
use Rattle.laws.proofs.Lists.{four, four_of}
use Rattle.laws.specs.Words.{at, each}
use Rattle.numbers.specs.Values.{little}
use Rattle.time_clock.specs.declared.Clock.{Clock}
use denote.Enum.Declared.{tag_of}
use Rattle.search.specs.contracts.Kind as kind
use Rattle.search.specs.declared.Kind.{Kind}
use Rattle.search.specs.declared.Kind.TheVariants.{One, Mute, Many}
use Rattle.search.specs.declared.EntryRecord.{EntryRecord}
use Rattle.search.specs.declared.Searched as answers
use Rattle.search.specs.SearchCall.{Searched}
use Rattle.search.specs.declared.SearchError.{SearchError}
use Rattle.search.specs.declared.SearchError.TheVariants.{ClockOutOfRange, NotEmpty, TooFewLent}
use Rattle.search.specs.View.{no_entry, error_number, searched_of, SearchesInto}
use Rattle.search.proofs.LentLaws.{over, lent_gives, lent_few, lent_front}
use Rattle.segment_image.specs.Image.{decode_image}
use Rattle.c_search.specs.Searches.{kind_byte_value, entry_bytes_value, summary_of_value, search_by, Searches}

-- ---- entries, one behind the other

pub length_entry : (e : EntryRecord) → length (entry_bytes_value e) ≡ 16
unfolding entry_bytes_value little
length_entry e = refl

-- a kind's number, as the program has it
kind_is : (k : Kind) → tag_of kind.the_type k + 1 ≡ kind_byte_value k
kind_is One = refl
kind_is Mute = refl
kind_is Many = refl

-- an entry, by its kind's number k and its count's bytes n
abbrev row_of : EntryRecord → ℕ → List ℕ → List ℕ
row_of e k n = let d = e.digits in k ∷ at d 0 ∷ at d 1 ∷ at d 2 ∷ at d 3 ∷ at d 4 ∷ at d 5 ∷ at d 6 ∷ at d 7 ∷ (n ++ 0 ∷ 0 ∷ 0 ∷ [])

pub entry_is : (e : EntryRecord) (n : List ℕ) → length n ≡ 4 → n ≡ little 4 e.count → row_of e (tag_of kind.the_type e.kind + 1) (four n) ≡ entry_bytes_value e
unfolding entry_bytes_value
entry_is e n l w = ap (λ (j : ℕ). row_of e j (four n)) (kind_is e.kind) ∙ ap (row_of e (kind_byte_value e.kind)) (four_of n l ∙ w)

-- ---- the search

-- the number of a refusal is above 0
error_above0 : (e : SearchError) → 0 < error_number e
error_above0 ClockOutOfRange = omega arith
error_above0 NotEmpty = omega arith
error_above0 TooFewLent = omega arith

-- the records `es` are the program's own, the first n are lent, and afterwards these are `zs`
module _ (k : Clock) (allowance : ℕ) (entries image image₁ : List ℕ) (es zs : List EntryRecord) (n : ℕ) (le : n ≤ length es) (en : n ≡ min (length entries / 16) most_meters) (ez : length zs ≡ n) where
  abbrev room : ℕ
  room = length entries / 16

  abbrev lent : List EntryRecord
  lent = replicate room no_entry

  abbrev want : Searched
  want = search_by k allowance entries (decode_image image)

  gave : (r : Result answers.Searched SearchError) → SearchesInto image k allowance (take n es) r zs image₁ → over lent (searched_of r zs (decode_image image₁)) ≡ want
  unfolding search_by
  gave r f = lent_gives image k allowance room es zs n image₁ le en ez r f lent (length-replicate room no_entry)

  pub search_refused_lem : (e : SearchError) (summary : List ℕ) → SearchesInto image k allowance (take n es) (Err e) zs image₁ → Searches want (error_number e) image image₁ entries entries summary summary
  unfolding searched_of
  search_refused_lem e summary f =
      let gives = gave (Err e) f in
      record {
        answer = ap (λ (x : Searched). x.number) gives;
        segment = ap (λ (x : Searched). x.segment) gives;
        exact = f.exact;
        written = ap (λ (x : Searched). each (take x.count x.lent) entry_bytes_value ++ drop (16 * x.count) entries) gives;
        told = λ q. absurd (omega (arith, q, error_above0 e));
        image_kept = λ _. f.kept;
        entries_kept = λ _. refl;
        summary_kept = λ _. refl;
      }

  module _ (r : answers.Searched) (f : SearchesInto image k allowance (take n es) (Ok r) zs image₁) where
    few : r.count ≤ n
    few = lent_few image k allowance room es zs n image₁ le en ez r f

    -- the entries fit the program's records and the lent bytes
    pub entries_fit : (r.count ≤ most_meters) × (16 * r.count ≤ length entries)
    entries_fit = (omega (arith, few, en), omega (arith, few, en))

    pub search_made : (entries₁ summary₁ : List ℕ) → entries₁ ≡ each (take r.count (zs ++ drop n es)) entry_bytes_value ++ drop (16 * r.count) entries
        → summary₁ ≡ summary_of_value r.count r.probes r.spent
        → (summary : List ℕ) → Searches want 0 image image₁ entries entries₁ summary summary₁
    unfolding searched_of
    search_made entries₁ summary₁ w su summary =
        let gives = gave (Ok r) f in
        let t : take r.count (take r.count zs ++ drop r.count lent) ≡ take r.count zs =
        take_at (take r.count zs) (drop r.count lent) r.count (length-take-le r.count zs (omega (arith, few, ez))) in
        record {
          answer = ap (λ (x : Searched). x.number) gives;
          segment = ap (λ (x : Searched). x.segment) gives;
          exact = f.exact;
          written =
              w
              ∙ ap (λ (xs : List EntryRecord). each xs entry_bytes_value ++ drop (16 * r.count) entries) (lent_front image k allowance room es zs n image₁ le en ez r f ∙ sym t)
              ∙ ap (λ (x : Searched). each (take x.count x.lent) entry_bytes_value ++ drop (16 * x.count) entries) gives;
          told = λ _. su ∙ ap (λ (x : Searched). summary_of_value x.count x.probes x.spent) gives;
          image_kept = λ h. absurd (omega (arith, h));
          entries_kept = λ h. absurd (omega (arith, h));
          summary_kept = λ h. absurd (omega (arith, h));
        }
