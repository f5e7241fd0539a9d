-- A search into records of one's own, of which a part is lent, is 01's search into any records of which there is room
-- for as many.
use Rattle.std.specs.Prelude.{if◌then◌else◌, Result, Ok}
use mathlib.Core.Path.{◌≡◌, refl, sym, ap, ◌∙◌}
use mathlib.Core.Bool.{Bool, true, false, not}
use mathlib.Core.List.{List, ◌++◌, map}
use Prim.Native.Nat.{ℕ, ◌≤◌, min}
use native.Mathlib.Omega.{arith}
use lib.Dec.{ltb}
use lib.ListN.{length, take, drop, length-append, length-drop, length-map}
use lib.Seq.{length-take-le, take-append-le, take-append_seam}
use borrow.Author.Tests.{lt-ltb, le-ltb, ltb-true, ltb-false}
use Rattle.time_clock.specs.declared.Clock.{Clock}
use Rattle.time_clock.specs.Fields.{good_clock_value}
use Rattle.list_open.specs.Opening.{most_meters}
use Rattle.segment.specs.Plain.{Plain}
use Rattle.segment_image.specs.Image.{decode_image}
use Rattle.segment_places.proofs.PlaceLaws.{meters_few}
use Rattle.search_walk.specs.Walk.{Entry, Walked, whole_walk}
use Rattle.search.specs.declared.EntryRecord.{EntryRecord}
use Rattle.search.specs.declared.Searched as answers
use Rattle.search.specs.declared.SearchError.{SearchError}
use Rattle.search.specs.SearchCall.{record_of_value, Searched, search_refused, search_gave, is_empty, search_call}
use Rattle.search.specs.View.{searched_of, SearchesInto}
use Rattle.search.proofs.Allowed.{search_cases}

-- ---- one search into two lists of records

-- what a search gave, with its entries in front of other records
abbrev pub over : List EntryRecord → Searched → Searched
over ys r = record { number = r.number; count = r.count; probes = r.probes; spent = r.spent; lent = take r.count r.lent ++ drop r.count ys; segment = r.segment }

over_gave : (xs ys : List EntryRecord) (w : Walked) → over ys (search_gave xs w) ≡ search_gave ys w
over_gave xs ys w =
    let n = length w.entries in
    let es = map record_of_value w.entries in
    let e : take n (es ++ drop n xs) ≡ es = ap (λ (m : ℕ). take m (es ++ drop n xs)) (sym (length-map w.entries record_of_value)) ∙ take-append_seam es (drop n xs) in
    λ j. record { number = 0; count = n; probes = w.probes; spent = w.spent; lent = e j ++ drop n ys; segment = w.segment }

module _ (k : Clock) (a : ℕ) (xs : List EntryRecord) (s : Plain) where
  -- of the lent records the search looks at how many they are, and at those behind its entries
  over_search : (ys : List EntryRecord) → ltb (length xs) (length s.meters) ≡ ltb (length ys) (length s.meters) → over ys (search_call k a xs s) ≡ search_call k a ys s
  unfolding search_call
  over_search ys e = go (good_clock_value k) (is_empty s) (ltb (length xs) (length s.meters)) (ltb (length ys) (length s.meters)) e
    where
      go : (x y z z' : Bool) → z ≡ z'
          → over ys (if not x then search_refused 14 xs s else (if not y then search_refused 16 xs s else (if z then search_refused 17 xs s else search_gave xs (whole_walk k a s))))
          ≡ (if not x then search_refused 14 ys s else (if not y then search_refused 16 ys s else (if z' then search_refused 17 ys s else search_gave ys (whole_walk k a s))))
      go false y z z' f = refl
      go true false z z' f = refl
      go true true true z' f = ap (λ b. if b then search_refused 17 ys s else search_gave ys (whole_walk k a s)) f
      go true true false z' f = over_gave xs ys (whole_walk k a s) ∙ ap (λ b. if b then search_refused 17 ys s else search_gave ys (whole_walk k a s)) f

  -- where the records stay as many, its entries are no more
  search_within : length (search_call k a xs s).lent ≡ length xs → (search_call k a xs s).count ≤ length xs
  search_within = search_cases k a xs s (λ r. length r.lent ≡ length xs → r.count ≤ length xs) (λ n l e. omega arith) (λ h e. within (whole_walk k a s).entries e)
    where
      within : (es : List Entry) → length (map record_of_value es ++ drop (length es) xs) ≡ length xs → length es ≤ length xs
      within es e = omega (arith, length-append (map record_of_value es) (drop (length es) xs), length-map es record_of_value, length-drop (length es) xs, e)

-- ---- the records that are lent are as many as there is room for, and no more than a segment has meters

same_test : (n room m : ℕ) → n ≡ min room most_meters → m ≤ most_meters → ltb n m ≡ ltb room m
same_test n room m e h = go (ltb room m) refl
  where
    go : (b : Bool) → ltb room m ≡ b → ltb n m ≡ b
    go true f = lt-ltb n m (let l = ltb-true room m f in omega arith)
    go false f = le-ltb n m (let l = ltb-false room m f in omega arith)

module _ (old : List ℕ) (k : Clock) (allowance room : ℕ) (es zs : List EntryRecord) (n : ℕ) (new : List ℕ) (le : n ≤ length es) (en : n ≡ min room most_meters) (ez : length zs ≡ n) where
  abbrev s : Plain
  s = decode_image old

  abbrev m : ℕ
  m = length s.meters

  many : length (take n es) ≡ n
  many = length-take-le n es le

  -- of the same length for the search
  over_lent : (lent : List EntryRecord) → length lent ≡ room → over lent (search_call k allowance (take n es) s) ≡ search_call k allowance lent s
  over_lent lent l = over_search k allowance (take n es) s lent (ap (λ (j : ℕ). ltb j m) many ∙ same_test n room m en (meters_few old) ∙ ap (λ (j : ℕ). ltb j m) (sym l))

  module _ (r : Result answers.Searched SearchError) (f : SearchesInto old k allowance (take n es) r zs new) where
    pub lent_gives : (lent : List EntryRecord) → length lent ≡ room → over lent (searched_of r zs (decode_image new)) ≡ search_call k allowance lent s
    lent_gives lent l = ap (over lent) f.gives ∙ over_lent lent l

  module _ (found : answers.Searched) (f : SearchesInto old k allowance (take n es) (Ok found) zs new) where
    pub lent_few : found.count ≤ n
    unfolding searched_of
    lent_few =
        let c = search_within k allowance (take n es) s (ap (λ (x : Searched). length x.lent) (sym f.gives) ∙ ez ∙ sym many) in
        omega (arith, ap (λ (x : Searched). x.count) f.gives, c, many)

    -- the entries are all in the part that was lent
    pub lent_front : take found.count (zs ++ drop n es) ≡ take found.count zs
    lent_front = take-append-le found.count zs (drop n es) (omega (arith, lent_few, ez))
