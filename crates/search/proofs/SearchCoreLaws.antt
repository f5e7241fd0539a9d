-- A search in an image is 01's search: its tests, the refusals, and the search that was made.
use Rattle.std.specs.Prelude.{Ok, Err}
use mathlib.Core.Path.{◌≡◌, refl, sym, ap, ◌∙◌}
use mathlib.Core.Bool.{Bool, true, false, ◌&&◌, not}
use mathlib.Core.List.{List, [], ◌∷◌, ◌++◌, map}
use Prim.Native.Nat.{ℕ, suc, ◌≤◌, ◌<◌}
use native.Mathlib.Omega.{arith}
use lib.Dec.{eqb}
use borrow.Author.Tests.{eq-eqb, ne_eqb, lt-ltb, le-ltb, eqb-true, not-true, not-false}
use lib.ListN.{length, drop}
use Rattle.laws.proofs.Lists.{and_l, and_r}
use Rattle.time_clock.specs.declared.Clock.{Clock}
use Rattle.segment.specs.Plain.{Plain}
use Rattle.time_clock.specs.Fields.{good_clock_value}
use Rattle.segment_image.specs.Image.{decode_image, encode_image}
use Rattle.search.specs.ProgramPacking.{record_in}
use Rattle.search.specs.declared.EntryRecord.{EntryRecord}
use Rattle.search.specs.declared.SearchError.{SearchError}
use Rattle.search.specs.declared.SearchError.TheVariants.{ClockOutOfRange, NotEmpty, TooFewLent}
use Rattle.search_packed.specs.ProgramPacked.{Walking}
use Rattle.search.specs.SearchCall.{search_refused, search_call, is_empty}
use Rattle.search.specs.View.{error_number, searched_of, SearchesInto}
use Rattle.search.specs.ProgramSearch.{Walks}
use Rattle.search.proofs.MadeLaws.{fitting, count_is, made}

-- ---- the tests

module _ (s : Plain) (w : ℕ) (e : w ≡ length s.input) where
  pub none_waits : (q : ℕ) → q ≡ length s.queue → w ≡ 0 → eqb q 0 ≡ is_empty s
  none_waits q f h = ap (λ n. eqb n 0) f ∙ sym (ap (λ b. b && eqb (length s.queue) 0) (eq-eqb (length s.input) 0 (sym e ∙ h)))

  pub some_waits : (w ≡ 0 → ⊥) → false ≡ is_empty s
  some_waits h = sym (ap (λ b. b && eqb (length s.queue) 0) (ne_eqb (length s.input) 0 (λ z. h (e ∙ z))))

none_there : {A : Type 0} (xs : List A) → eqb (length xs) 0 ≡ true → xs ≡ []
none_there [] h = refl
none_there (x ∷ xs) h = absurd (let z = eqb-true (suc (length xs)) 0 h in omega arith)

-- ---- the search call

module _ (old : List ℕ) (k : Clock) (allowance : ℕ) (lent : List EntryRecord) where
  abbrev s : Plain
  s = decode_image old

  -- a refused search writes nothing
  refusing : (e : SearchError) → search_refused (error_number e) lent s ≡ search_call k allowance lent s → SearchesInto old k allowance lent (Err e) lent old
  unfolding searched_of
  refusing e h = record { gives = h; exact = λ x. x; kept = refl }

  module _ {g : Bool} (eg : g ≡ good_clock_value k) where
    pub refused_clock_lem : not g ≡ true → SearchesInto old k allowance lent (Err ClockOutOfRange) lent old
    unfolding search_call
    refused_clock_lem h = refusing ClockOutOfRange (rw (sym eg, not-true g h))

    module _ (good : not g ≡ false) {e : Bool} (ee : e ≡ is_empty s) where
      clock_good : good_clock_value k ≡ true
      clock_good = sym eg ∙ not-false g good

      pub refused_waiting : not e ≡ true → SearchesInto old k allowance lent (Err NotEmpty) lent old
      unfolding search_call
      refused_waiting h = refusing NotEmpty (rw (clock_good, sym ee, not-true e h))

      module _ (rest : not e ≡ false) {n : ℕ} (en : n ≡ length s.meters) where
        empty : is_empty s ≡ true
        empty = sym ee ∙ not-false e rest

        no_input : s.input ≡ []
        no_input = none_there s.input (and_l (eqb (length s.input) 0) (eqb (length s.queue) 0) empty)

        no_queue : s.queue ≡ []
        no_queue = none_there s.queue (and_r (eqb (length s.input) 0) (eqb (length s.queue) 0) empty)

        pub refused_few : length lent < n → SearchesInto old k allowance lent (Err TooFewLent) lent old
        unfolding search_call
        refused_few h =
            refusing TooFewLent (rw (clock_good, sym ee, not-false e rest, lt-ltb (length lent) (length s.meters) (omega arith)))

        -- a walk's entries are no more than the records lent
        pub lent_enough : (w : Walking) (new : List ℕ) → n ≤ length lent → Walks old allowance w new → length w.run.entries ≤ length lent
        lent_enough w new h x =
            omega (arith, count_is old k allowance w new clock_good no_input no_queue x, fitting old k allowance w new clock_good no_input no_queue x)

        pub made_search : (w : Walking) (new : List ℕ) (m : ℕ) (after : List EntryRecord) → n ≤ length lent → Walks old allowance w new → m ≡ length w.run.entries
            → after ≡ map record_in w.run.entries ++ drop (length w.run.entries) lent
            → SearchesInto old k allowance lent (Ok (record { count = m; probes = w.run.probes; spent = w.run.spent })) after new
        unfolding search_call
        made_search w new m after h x c e =
            record {
              gives =
                  made old k allowance w new clock_good no_input no_queue x lent after m c e
                  ∙ sym (rw (clock_good, sym ee, not-false _ rest, le-ltb (length lent) (length s.meters) (omega arith)) refl);
              exact = λ z. x.image.exact z ∙ ap encode_image (sym x.image.means);
              kept = tt;
            }
