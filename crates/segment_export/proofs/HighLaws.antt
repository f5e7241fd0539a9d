-- Whether a meter has a primary above 250, by the places of an image.
use mathlib.Core.Path.{◌≡◌, sym, ap, ◌∙◌}
use mathlib.Core.Bool.{Bool, ◌||◌}
use mathlib.Core.List.{List}
use Prim.Native.Nat.{ℕ, zero, suc, ◌+◌}
use native.Mathlib.Numerals.{add-one}
use native.Mathlib.Omega.{arith}
use lib.Dec.{ltb}
use lib.ListN.{length, drop, drop_of_length-le}
use lib.Seq.{drop-cons}
use Rattle.std.specs.List.{list_any, range_with_len}
use Rattle.meter.specs.PlainMeter.{PlainMeter}
use Rattle.segment_image.specs.Image.{decode_image}
use Rattle.segment_places.specs.ProgramBecomes.{meter_in}
use Rattle.segment_places.proofs.PlaceLaws.{meter-at}
use Rattle.segment_export.specs.Export.{any_above250}

-- from the place i on there are n meters
above_from : (l : List ℕ) (n i : ℕ) → length (decode_image l).meters ≡ i + n
    → list_any (λ k. ltb 250 (meter_in k l).primary) (range_with_len i n) ≡ any_above250 (drop i (decode_image l).meters)
above_from l zero i h = sym (ap any_above250 (drop_of_length-le (decode_image l).meters (omega arith)))
above_from l (suc n) i h =
    let ms = (decode_image l).meters in
    ap (λ (b : Bool). ltb 250 (meter_in i l).primary || b) (above_from l n (i + 1) (omega arith) ∙ ap (λ k. any_above250 (drop k ms)) (add-one i))
    ∙ ap (λ (p : PlainMeter). ltb 250 p.primary || any_above250 (drop (suc i) ms)) (sym (meter-at l i (meter_in i l) (omega arith)))
    ∙ ap any_above250 (sym (drop-cons ms i (meter_in i l) (omega arith)))

pub above_in : (l : List ℕ) (n : ℕ) → n ≡ length (decode_image l).meters → list_any (λ i. ltb 250 (meter_in i l).primary) (range_with_len 0 n) ≡ any_above250 (decode_image l).meters
above_in l n h = above_from l n 0 (omega arith)
