-- A search into records of its own that are given by value is 01's search into any records of which there is room for
-- as many.
use Rattle.std.specs.Prelude.{Ok, Err}
use mathlib.Core.Path.{◌≡◌, ◌∙◌}
use mathlib.Core.List.{List, ◌++◌}
use Prim.Native.Nat.{ℕ, ◌≤◌, min}
use native.Mathlib.Omega.{arith}
use lib.ListN.{length, take, drop}
use Rattle.laws.specs.Refusal.{not_refused}
use Rattle.time_clock.specs.declared.Clock.{Clock}
use Rattle.list_open.specs.Opening.{most_meters}
use Rattle.segment_image.specs.Image.{decode_image}
use Rattle.search.specs.declared.EntryRecord.{EntryRecord}
use Rattle.search.specs.declared.Searched as answers
use Rattle.search.specs.declared.SearchError.{SearchError}
use Rattle.search.specs.View.{searched_of, SearchesInto, SearchesIn}
use Rattle.search.proofs.LentLaws.{lent_gives, lent_few, lent_front}

-- the records `es` are the program's own, the first n are lent, and afterwards these are `zs`
module _ (old : List ℕ) (k : Clock) (allowance room : ℕ) (es zs : List EntryRecord) (n : ℕ) (new : List ℕ) (le : n ≤ length es) (en : n ≡ min room most_meters) (ez : length zs ≡ n) where
  pub listed_refused : (e : SearchError) → SearchesInto old k allowance (take n es) (Err e) zs new → SearchesIn old k allowance room (Err e) new
  unfolding searched_of
  listed_refused e f = record { gives = lent_gives old k allowance room es zs n new le en ez (Err e) f; fits = tt; enough = tt; exact = f.exact; kept = f.kept }

  pub listed_made : (found : answers.Searched) → SearchesInto old k allowance (take n es) (Ok found) zs new
      → SearchesIn old k allowance room (Ok (record { entries = zs ++ drop n es; count = found.count; probes = found.probes; spent = found.spent })) new
  unfolding searched_of
  listed_made found f =
      let few = lent_few old k allowance room es zs n new le en ez found f in
      let front = lent_front old k allowance room es zs n new le en ez found f in
      record {
        gives = λ lent l.
            (λ j. record { number = not_refused; count = found.count; probes = found.probes; spent = found.spent; lent = front j ++ drop found.count lent; segment = decode_image new })
            ∙ lent_gives old k allowance room es zs n new le en ez (Ok found) f lent l;
        fits = omega (arith, few, en);
        enough = omega (arith, few, en);
        exact = f.exact;
        kept = tt;
      }
