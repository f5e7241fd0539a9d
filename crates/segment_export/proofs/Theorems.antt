-- How exports are judged; so many bytes are always enough.
use Rattle.std.specs.Prelude.{if◌then◌else◌}
use mathlib.Core.Path.{◌≡◌, refl, ap, ◌∙◌}
use mathlib.Core.Bool.{Bool, true, false, ◌||◌}
use mathlib.Core.List.{List, [], ◌∷◌, ◌++◌}
use Prim.Native.Nat.{ℕ, zero, suc, ◌≤◌, ◌<◌, min}
use native.Mathlib.Omega.{arith}
use lib.Dec.{ltb}
use lib.ListN.{length, drop}
use borrow.Author.Tests.{lt-ltb, le-ltb, ltb-true, ltb-false}
use Rattle.laws.specs.Words.{Every}
use Rattle.laws.proofs.Lists.{if_with}
use Rattle.numbers.specs.Number.{number}
use Rattle.meter.specs.PlainMeter.{PlainMeter}
use Rattle.meter_identity.specs.Identity.{digits_of_value}
use Rattle.list_open.specs.Opening.{capacity}
use Rattle.list_write.proofs.LengthLaws.{records_short}
use Rattle.segment_image.specs.MeterBytes.{decode_meter}
use Rattle.segment_image.specs.Image.{meters, decode_image}
use Rattle.segment_places.proofs.PlaceLaws.{meters_count}
use Rattle.segment_export.specs.Export.{list_of, any_above250, Exported, export_refused, export_into_value}
use Rattle.segment_export.specs.ProgramExport.{records_of_value}
use Rattle.segment_export.specs.Theorems.{Judged, high, short, done, ExportJudged, JudgedOnce, export_most, RoomEnough}
use Rattle.segment_export.proofs.ListLaws.{list_long}

-- ---- which are refused

-- a primary above 250 is found, or none is
data Found (ms : List PlainMeter) : Bool → Type 0 where
  some : (before : List PlainMeter) (m : PlainMeter) (after : List PlainMeter) → ms ≡ before ++ m ∷ after → 250 < m.primary → Found ms true
  none : Every (λ m. m.primary ≤ 250) ms → Found ms false

found : (ms : List PlainMeter) → Found ms (any_above250 ms)
found [] = none tt
found (m ∷ ms) = go (ltb 250 m.primary) refl (any_above250 ms) (found ms)
  where
    go : (b : Bool) → ltb 250 m.primary ≡ b → (c : Bool) → Found ms c → Found (m ∷ ms) (b || c)
    go true e c f = some [] m ms refl (ltb-true 250 m.primary e)
    go false e true (some before n after q h) = some (m ∷ before) n after (ap (λ r. m ∷ r) q) h
    go false e false (none h) = none (ltb-false 250 m.primary e, h)

pub export_judged : ExportJudged
unfolding export_into_value
export_judged lent s = go (any_above250 s.meters) (found s.meters) (ltb (length lent) (length (list_of s))) refl
  where
    go : (a : Bool) → Found s.meters a → (b : Bool) → ltb (length lent) (length (list_of s)) ≡ b
        → Judged lent s (if a then export_refused 18 lent else (if b then export_refused 12 lent else (record { number = 0; count = length (list_of s); lent = list_of s ++ drop (length (list_of s)) lent })))
    go true (some before m after q h) b e = high before m after q h
    go false (none h) true e = short h (ltb-true (length lent) (length (list_of s)) e)
    go false (none h) false e = done h (ltb-false (length lent) (length (list_of s)) e)

above_there : (before : List PlainMeter) (m : PlainMeter) (after : List PlainMeter) → 250 < m.primary → any_above250 (before ++ m ∷ after) ≡ true
above_there [] m after h = rw (lt-ltb 250 m.primary h)
above_there (n ∷ before) m after h = go (ltb 250 n.primary) (above_there before m after h)
  where
    go : (b : Bool) → any_above250 (before ++ m ∷ after) ≡ true → b || any_above250 (before ++ m ∷ after) ≡ true
    go true e = refl
    go false e = e

none_above : (ms : List PlainMeter) → Every (λ m. m.primary ≤ 250) ms → any_above250 ms ≡ false
none_above [] h = refl
none_above (m ∷ ms) h = rw (le-ltb 250 m.primary h.0) (none_above ms h.1)

pub judged_once : JudgedOnce
unfolding export_into_value
judged_once lent s e (high before m after q h) = rw (ap any_above250 q ∙ above_there before m after h)
judged_once lent s e (short h l) = rw (none_above s.meters h, lt-ltb (length lent) (length (list_of s)) l)
judged_once lent s e (done h l) = rw (none_above s.meters h, le-ltb (length lent) (length (list_of s)) l)

-- ---- the longest list

-- every meter of an image has eight digits
eight_each : (n : ℕ) (bs : List ℕ) → Every (λ (m : PlainMeter). length m.digits ≡ 8) (meters n bs)
unfolding meters decode_meter digits_of_value
eight_each zero bs = tt
eight_each (suc n) bs = (refl, eight_each n (drop 25 bs))

digits_eight : (image : List ℕ) → Every (λ (m : PlainMeter). length m.digits ≡ 8) (decode_image image).meters
unfolding decode_image
digits_eight image = eight_each (min (number 2 12 image) capacity) (drop 4374 image)

list_short : (image : List ℕ) → length (list_of (decode_image image)) ≤ export_most
unfolding records_of_value
list_short image =
    let s = decode_image image in
    omega (arith, list_long s, records_short s.baud s.meters (digits_eight image), meters_count image)

pub room_enough : RoomEnough
unfolding export_into_value
room_enough image lent h =
    let s = decode_image image in
    if_with (λ (e : Exported). e.number ≡ 12 → ⊥) (any_above250 s.meters) _ _ (λ high n. omega arith)
    (λ low. if_with (λ (e : Exported). e.number ≡ 12 → ⊥) (ltb (length lent) (length (list_of s))) _ _ (λ short n. omega (arith, list_short image, ltb-true (length lent) (length (list_of s)) short))
    (λ room n. omega arith))
