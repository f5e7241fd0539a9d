-- A worked example of an image's bytes, both ways.
use mathlib.Core.Path.{◌≡◌, refl}
use mathlib.Core.List.{List, [], ◌∷◌, ◌++◌}
use Prim.Native.Nat.{ℕ}
use lib.Ieee.{nan, to_bits, of_bits}
use lib.ListN.{replicate}
use Rattle.numbers.specs.Values.{little}
use Rattle.meter_identity.specs.Identity.{id_bytes_value, digits_of_value}
use Rattle.list_open.specs.Opening.{capacity}
use Rattle.segment_image.specs.MeterBytes.{decode_meter, encode_meter}
use Rattle.numbers.specs.Number.{number}
use Rattle.segment_image.proofs.WorkedMeter.{a_meter, a_meter_is}
use Rattle.segment.specs.Plain.{Plain}
use Rattle.segment_image.specs.Image.{meters, decode_image, head_bytes_value, encode_image}

-- 300 Bd, a NaN as origin, the input 10 5B, the queue E5, one meter
unfoldable a_segment : Plain
a_segment = record { baud = 300; origin = nan; input = 0x10 ∷ 0x5B ∷ []; queue = 0xE5 ∷ []; meters = a_meter_is ∷ [] }

unfoldable an_image : List ℕ
an_image =
    0x2C ∷ 0x01 ∷ 0 ∷ 0 ∷ replicate 6 0 ++ (0xF8 ∷ 0x7F ∷ 1 ∷ 0 ∷ 2 ∷ 0 ∷ 1 ∷ 0 ∷ []) ++ (0x10 ∷ 0x5B ∷ replicate 258 0) ++ (0xE5 ∷ replicate 4095 0) ++ a_meter ++ replicate 1575 0

means_one_meter : decode_image an_image ≡ a_segment
unfolding decode_image decode_meter meters number digits_of_value a_meter a_meter_is of_bits capacity an_image a_segment
means_one_meter = refl

image_of_one_meter : encode_image a_segment ≡ an_image
unfolding encode_image head_bytes_value encode_meter little id_bytes_value a_meter a_meter_is to_bits capacity an_image a_segment
image_of_one_meter = refl
