-- An opening, accepted or refused, from what the list's meters are.
use mathlib.Core.Path.{◌≡◌, refl}
use mathlib.Core.Bool.{Bool}
use mathlib.Core.List.{List, []}
use Prim.Native.Nat.{ℕ, ◌<◌}
use native.Mathlib.Omega.{arith}
use lib.Ieee.{Float}
use Rattle.meter.specs.PlainMeter.{PlainMeter}
use Rattle.list_open.specs.Opening.{Opened, opens, refuses, meters_in, number_in, open_list_value}
use Rattle.list_check.specs.Refusals.{error_number}
use Rattle.list_check.specs.declared.refusal.Refusal.{Refusal}
use Rattle.list_check.specs.declared.refusal.Refusal.TheVariants.{Version, Length, Capacity, AtRecord, Baud}
use Rattle.segment.specs.Plain.{Plain}
use Rattle.segment.specs.Calls.{after_opening}
use Rattle.list_check.proofs.VerdictLaws.{failing_between}
use Rattle.list_open.proofs.OpeningLaws.{OpensWell, open_list_well}

-- a refusal has a number above 0
pub refused-number : (e : Refusal) → 0 < error_number e
refused-number Version = omega arith
refused-number Length = omega arith
refused-number Capacity = omega arith
refused-number (AtRecord f i) = omega (arith, failing_between f)
refused-number Baud = omega arith

-- ---- the segment afterwards

module _ (list : List ℕ) (bus : ℕ) (practice : Bool) (origin : Float) (former : Plain) where
  abbrev anew : List PlainMeter → Plain
  anew ms = record { baud = bus; origin = origin; input = []; queue = []; meters = ms }

  pub opening_accepted : 0 ≡ number_in (open_list_value list bus practice) → anew (meters_in (open_list_value list bus practice)) ≡ after_opening list bus practice origin former
  unfolding after_opening
  opening_accepted e = go (open_list_value list bus practice) (open_list_well list bus practice) e
    where
      go : (o : Opened) → OpensWell o → 0 ≡ number_in o → anew (meters_in o) ≡ elim o [ opens ms ↦ anew ms | refuses number index ↦ former ]
      go (opens ms) w n = refl
      go (refuses number index) w n = absurd (omega (arith, w.0, n))

  pub opening_refused : (r : Refusal) → error_number r ≡ number_in (open_list_value list bus practice) → former ≡ after_opening list bus practice origin former
  unfolding after_opening
  opening_refused r e = go (open_list_value list bus practice) e (refused-number r)
    where
      go : (o : Opened) → error_number r ≡ number_in o → 0 < error_number r → former ≡ elim o [ opens ms ↦ anew ms | refuses number index ↦ former ]
      go (opens ms) n z = absurd (omega (arith, n, z))
      go (refuses number index) n z = refl
