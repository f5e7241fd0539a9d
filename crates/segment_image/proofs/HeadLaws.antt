-- The first 18 bytes of an image, by the bytes of its numbers.
use mathlib.Core.Path.{◌≡◌}
use mathlib.Core.List.{List, [], ◌∷◌, ◌++◌}
use Prim.Native.Nat.{ℕ}
use lib.Ieee.{Float, binary64, to_bits}
use Rattle.laws.specs.Words.{at}
use Rattle.laws.proofs.Lists.{four}
use Rattle.numbers.specs.Values.{little}
use Rattle.segment_image.specs.Image.{head_bytes_value}

abbrev two : List ℕ → List ℕ
two l = at l 0 ∷ at l 1 ∷ []

abbrev eight : List ℕ → List ℕ
eight l = four l ++ (at l 4 ∷ at l 5 ∷ at l 6 ∷ at l 7 ∷ [])

pub head-is : (baud : ℕ) (origin : Float) (count waiting queued : ℕ) (b o c w q : List ℕ)
    → b ≡ little 4 baud → o ≡ little 8 (to_bits binary64 origin) → c ≡ little 2 count → w ≡ little 2 waiting → q ≡ little 2 queued
    → four b ++ eight o ++ two c ++ two w ++ two q ≡ head_bytes_value baud origin count waiting queued
unfolding head_bytes_value little
head-is baud origin count waiting queued b o c w q e f g h i = rw (e, f, g, h, i)
