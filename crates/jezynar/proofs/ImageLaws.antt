-- What an opening answers, packed into one number.
use mathlib.Core.Path.{◌≡◌, ap, ◌∙◌}
use mathlib.Core.Bool.{Bool}
use mathlib.Core.List.{List}
use Prim.Native.Nat.{ℕ, ◌<◌}
use native.Mathlib.Omega.{arith}
use Rattle.list_open.specs.Opening.{most_meters, Opened, opens, refuses, index_in, open_list_value}
use Rattle.segment.specs.Plain.{Plain}
use Rattle.segment_image.specs.Image.{encode_image, IsImage}
use Rattle.list_open.proofs.OpeningLaws.{OpensWell, open_list_well}

pub image_of : {s t : Plain} {bs : List ℕ} → IsImage s bs → s ≡ t → IsImage t bs
image_of i e = record { bytes = i.bytes ∙ ap encode_image e; means = i.means ∙ e }

-- ---- opening: the number and the index

pub opening_index : (list : List ℕ) (bus : ℕ) (practice : Bool) {i : ℕ} → i ≡ index_in (open_list_value list bus practice) → i < most_meters
opening_index list bus practice {i} e = go (open_list_value list bus practice) (open_list_well list bus practice) e
  where
    go : (o : Opened) → OpensWell o → i ≡ index_in o → i < most_meters
    go (opens ms) w n = omega (arith, n)
    go (refuses number index) w n = omega (arith, w.1, n)
