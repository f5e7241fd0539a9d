-- A loop that copies s into d from place at on: its invariant, what a turn adds, and a copy to the front.
-- l is d as it is after j elements.
use mathlib.Core.Path.{◌≡◌, sym, ap, ◌∙◌}
use mathlib.Core.List.{List, ◌++◌, append_assoc}
use Prim.Native.Nat.{ℕ, ◌+◌, ◌-◌, ◌≤◌, ◌<◌}
use native.Mathlib.Nat.{zero-add}
use native.Mathlib.Numerals.{add-one}
use native.Mathlib.Omega.{arith}
use lib.ListN.{length, take, drop, set, get_or, length-drop, take-append-drop}
use lib.Seq.{paste, paste-zero, paste-suc, drop-drop, drop-append-le, length-take-le, take_all, take-length}

pub record Copied {A : Type 0} (d : List A) (at : ℕ) (s : List A) (j : ℕ) (l : List A) : Type 0 where
  pub is : l ≡ paste d at s j

module _ {A : Type 0} {d : List A} {at : ℕ} {s : List A} where
  pub copied_none : Copied d at s 0 d
  copied_none = record { is = paste-zero d at s }

  module _ {j : ℕ} {l : List A} where
    -- a turn: v, the next element of s, is stored at x, the next place
    pub copied_more : {x : ℕ} {v : A} (z : A) → Copied d at s j l → x ≡ at + j → at + j < length d → j < length s → v ≡ get_or s j z → Copied d at s (j + 1) (set l x v)
    copied_more z c f h k e = record { is = rw (e, f, c.is, add-one) (paste-suc d at s j z h k) }

module _ {A : Type 0} where
  -- a copy to the front
  pub copied_front : {d s l : List A} {j : ℕ} → Copied d 0 s j l → l ≡ take j s ++ drop j d
  copied_front {d} {s} {l} {j} c = c.is ∙ ap (λ (k : ℕ). take j s ++ drop k d) (zero-add j)

  -- `laws::copy` of s into what lies from p on, and that back in its place
  pub copied_into : (d s l : List A) (p : ℕ) → p + length s ≤ length d → l ≡ take (length (take (length d - p) (drop p d))) s ++ drop (length s) (take (length d - p) (drop p d)) → take p d ++ (l ++ drop (length d - p) (drop p d)) ≡ paste d p s (length s)
  copied_into d s l p h e =
      let n = length s in
      let k = length d - p in
      let part = take k (drop p d) in
      let rest = drop k (drop p d) in
      let m : length part ≡ k = length-take-le k (drop p d) (rw length-drop (omega arith)) in
      let q : drop n part ++ rest ≡ drop (p + n) d =
      sym (drop-append-le n part rest (omega arith)) ∙ ap (drop n) (take-append-drop k (drop p d)) ∙ drop-drop n p d in
      let w : take (length part) s ≡ take n s = take_all (length part) s (omega arith) ∙ sym (take-length s) in
      ap (λ (r : List A). take p d ++ (r ++ rest)) (e ∙ ap (λ (r : List A). r ++ drop n part) w)
      ∙ ap (λ (r : List A). take p d ++ r) (append_assoc (take n s) (drop n part) rest ∙ ap (λ (r : List A). take n s ++ r) q)
      ∙ sym (append_assoc (take p d) (take n s) (drop (p + n) d))
