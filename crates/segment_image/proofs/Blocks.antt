-- Blocks of a list after a copy into it.
use mathlib.Core.Path.{◌≡◌, sym, ap, ◌∙◌}
use mathlib.Core.List.{List, [], ◌++◌, append_assoc}
use Prim.Native.Nat.{ℕ, ◌+◌, ◌-◌, ◌≤◌}
use native.Mathlib.Omega.{arith}
use borrow.Rule.Slice.PartMut.{put_mid}
use lib.ListN.{length, take, drop, length-drop}
use lib.Seq.{paste, drop-drop, take-paste, length-paste, take-append-le, take-take, drop_at, drop-length, length-take-le}
use Rattle.std.proofs.lemmas.List.{drop-take}
use Rattle.std.proofs.lemmas.List.{take_rest}
use Rattle.segment_image.specs.Image.{block}

module _ (d : List ℕ) (p : ℕ) (s : List ℕ) (n : ℕ) (h : p + n ≤ length d) where
  -- before the copy, the list is as it was
  pub paste_before : (k : ℕ) → k ≤ p → take k (paste d p s n) ≡ take k d
  paste_before k e =
      let l : length (take p d) ≡ p = length-take-le p d (omega arith) in
      ap (take k) (append_assoc (take p d) (take n s) (drop (p + n) d))
      ∙ take-append-le k (take p d) (take n s ++ drop (p + n) d) (omega arith)
      ∙ take-take k p d e

  pub paste-at : n ≤ length s → block p n (paste d p s n) ≡ take n s
  paste-at m =
      let l : length (paste d p s n) ≡ length d = length-paste d p s n h m in
      sym (drop-take p n (paste d p s n))
      ∙ ap (drop p) (take-paste d p s n (omega arith) m)
      ∙ drop_at (take p d) (take n s) p (length-take-le p d (omega arith))

-- n elements of s, from its front, put over those of d from p on
pub put_over : (d s ys : List ℕ) (p k n : ℕ) → ys ≡ take n s → k ≡ n → put_mid p k d ys ≡ paste d p s n
put_over d s ys p k n e h =
    rw (e, h, drop-drop n p d) (sym (append_assoc (take p d) (take n s) (drop (p + n) d)))

-- what a part of s puts over d, s does, so far
pub paste_part : (d s : List ℕ) (p n : ℕ) → n ≤ length s → paste d p (take n s) (length (take n s)) ≡ paste d p s n
paste_part d s p n h =
    ap (paste d p (take n s)) (length-take-le n s h)
    ∙ ap (λ x. take p d ++ x ++ drop (p + n) d) (take-take n n s (omega arith))

-- a block within the first k
pub block-take : (p n k : ℕ) (l : List ℕ) → p + n ≤ k → p + n ≤ length l → block p n (take k l) ≡ block p n l
block-take p n k l h m =
    sym (drop-take p n (take k l))
    ∙ ap (drop p) (take-take (p + n) k l h)
    ∙ drop-take p n l

-- what two lists have in common at the front, their blocks there have in common
pub block_same : (p n k : ℕ) (l m : List ℕ) → take k l ≡ take k m → p + n ≤ k → p + n ≤ length l → p + n ≤ length m → block p n l ≡ block p n m
block_same p n k l m e h i j = sym (block-take p n k l h i) ∙ ap (block p n) e ∙ block-take p n k m h j

pub length_rest : (p n : ℕ) (l : List ℕ) → length l ≡ p + n → length (take (length l - p) (drop p l)) ≡ n
length_rest p n l h = ap length (take_rest l p) ∙ length-drop p l ∙ omega arith

pub nothing_left : (p : ℕ) (l : List ℕ) → drop (length l - p) (drop p l) ≡ []
nothing_left p l = ap (λ (n : ℕ). drop n (drop p l)) (sym (length-drop p l)) ∙ drop-length (drop p l)
