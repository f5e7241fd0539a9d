-- What waits in an image, and a piece behind it.
use mathlib.Core.Path.{◌≡◌, ap, ap₂, ◌∙◌}
use mathlib.Core.List.{List, ◌++◌}
use Prim.Native.Nat.{ℕ, ◌+◌, ◌-◌, ◌≤◌}
use native.Mathlib.Omega.{arith}
use lib.ListN.{length, take, drop}
use lib.Seq.{paste, length-paste, take-paste, take-length}
use Rattle.segment_image.specs.Image.{decode_image}
use Rattle.segment_places.proofs.PlaceLaws.{input_count}

-- what waits, as a part of the image
pub input_is : (l : List ℕ) (n : ℕ) → length l ≡ 5974 → n ≡ length (decode_image l).input → take (18 + n - 18) (drop 18 l) ≡ (decode_image l).input
unfolding decode_image
input_is l n h e =
    let d : 18 + n - 18 ≡ n = omega arith in
    ap (λ k. take k (drop 18 l)) (d ∙ e ∙ input_count l h)

module _ (b s piece : List ℕ) (n : ℕ) (e : n ≡ length s) (h : n + length piece ≤ length b) where
  pub line_long : length (paste b 0 s (length s)) ≡ length b
  line_long = length-paste b 0 s (length s) (omega arith) (omega arith)

  pub line-is : take (n + length piece) (paste (paste b 0 s (length s)) n piece (length piece)) ≡ s ++ piece
  line-is =
      let c = paste b 0 s (length s) in
      let f : n ≡ 0 + length s = omega arith in
      take-paste c n piece (length piece) (omega (arith, line_long)) (omega arith)
      ∙ ap₂ (λ x y. x ++ y) (ap (λ k. take k c) f ∙ take-paste b 0 s (length s) (omega arith) (omega arith) ∙ take-length s) (take-length piece)
