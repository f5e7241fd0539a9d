-- What the table of refusals lets through, both ways.
use Rattle.std.specs.Prelude.{if◌then◌else◌}
use mathlib.Core.Path.{◌≡◌, refl, ap}
use mathlib.Core.Bool.{Bool, true, false, ◌&&◌, not}
use mathlib.Core.List.{List, [], ◌∷◌}
use Prim.Native.Nat.{ℕ, ◌≤◌, ◌<◌}
use native.Mathlib.Omega.{arith}
use lib.Dec.{eqb, ltb}
use lib.ListN.{length}
use borrow.Author.Tests.{eq-eqb, eqb-true, le-ltb, ltb-false}
use Rattle.laws.proofs.Lists.{and_l, and_r}
use Rattle.time_clock.specs.declared.Clock.{Clock}
use Rattle.segment.specs.Plain.{Plain}
use Rattle.time_clock.specs.Fields.{good_clock_value}
use Rattle.search_walk.specs.Walk.{whole_walk}
use Rattle.search.specs.declared.EntryRecord.{EntryRecord}
use Rattle.search.specs.SearchCall.{Searched, search_refused, search_gave, search_call}

pub record Allowed (k : Clock) (lent : List EntryRecord) (s : Plain) : Type 0 where
  pub clock : good_clock_value k ≡ true
  pub input : s.input ≡ []
  pub queue : s.queue ≡ []
  pub room : length s.meters ≤ length lent

none : (bs : List ℕ) → length bs ≡ 0 → bs ≡ []
none [] h = refl
none (b ∷ bs) h = absurd (omega arith)

module _ (k : Clock) (a : ℕ) (lent : List EntryRecord) (s : Plain) where
  pub allowed_accepted : Allowed k lent s → search_call k a lent s ≡ search_gave lent (whole_walk k a s)
  unfolding search_call
  allowed_accepted h =
      rw (h.clock, eq-eqb (length s.input) 0 (ap length h.input), eq-eqb (length s.queue) 0 (ap length h.queue), le-ltb (length lent) (length s.meters) h.room)

  -- a search is refused by a number, and nothing changes, or allowed, and gives what the walk gives
  pub search_cases : (P : Searched → Type 0) → ((n : ℕ) → 0 < n → P (search_refused n lent s)) → (Allowed k lent s → P (search_gave lent (whole_walk k a s))) → P (search_call k a lent s)
  unfolding search_call
  search_cases P f g = go (good_clock_value k) refl _ refl _ refl
    where
      go : (x : Bool) → good_clock_value k ≡ x → (y : Bool) → eqb (length s.input) 0 && eqb (length s.queue) 0 ≡ y → (z : Bool) → ltb (length lent) (length s.meters) ≡ z
          → P (if not x then search_refused 14 lent s else (if not y then search_refused 16 lent s else (if z then search_refused 17 lent s else search_gave lent (whole_walk k a s))))
      go false ex y ey z ez = f 14 (omega arith)
      go true ex false ey z ez = f 16 (omega arith)
      go true ex true ey true ez = f 17 (omega arith)
      go true ex true ey false ez =
          g (record {
            clock = ex;
            input = none s.input (eqb-true _ _ (and_l (eqb (length s.input) 0) (eqb (length s.queue) 0) ey));
            queue = none s.queue (eqb-true _ _ (and_r (eqb (length s.input) 0) (eqb (length s.queue) 0) ey));
            room = ltb-false (length lent) (length s.meters) ez;
          })

  pub accepted_allowed : (search_call k a lent s).number ≡ 0 → Allowed k lent s
  accepted_allowed = search_cases (λ r. r.number ≡ 0 → Allowed k lent s) (λ n l e. absurd (omega arith)) (λ h e. h)
