-- A loop that writes the rows of xs, w bytes each, into l₀ from its front on: its invariant, and what a turn adds.
-- l is l₀ as it is after i rows.
use mathlib.Core.Path.{◌≡◌, refl, sym, ap, ◌∙◌}
use mathlib.Core.List.{List, [], ◌∷◌, ◌++◌, map, append-nil, append_assoc}
use Prim.Native.Nat.{ℕ, ◌+◌, ◌*◌, ◌<◌}
use native.Mathlib.Nat.{mul-zero, mul-suc}
use native.Mathlib.Numerals.{add-one}
use native.Mathlib.Omega.{arith}
use lib.ListN.{length, take, drop, get_or, length-append}
use lib.Seq.{paste, take_at, take_all, take-suc, drop-drop, drop-append-add, length-take-le}
use Rattle.laws.specs.Words.{each}

module _ {A : Type 0} (f : A → List ℕ) where
  rows_one : (x : A) → each (x ∷ []) f ≡ f x
  rows_one x = append-nil (f x)

  rows_append : (xs ys : List A) → each (xs ++ ys) f ≡ each xs f ++ each ys f
  rows_append [] ys = refl
  rows_append (x ∷ xs) ys = ap (λ (r : List ℕ). f x ++ r) (rows_append xs ys) ∙ sym (append_assoc (f x) (each xs f) (each ys f))

pub rows_map : {A B : Type 0} (f : B → List ℕ) (g : A → B) (xs : List A) → each xs (λ (x : A). f (g x)) ≡ each (map g xs) f
rows_map f g [] = refl
rows_map f g (x ∷ xs) = ap (λ (r : List ℕ). f (g x) ++ r) (rows_map f g xs)

pub record Rows {A : Type 0} (f : A → List ℕ) (w : ℕ) (xs : List A) (l₀ : List ℕ) (i : ℕ) (l : List ℕ) : Type 0 where
  pub is : l ≡ each (take i xs) f ++ drop (w * i) l₀

module _ {A : Type 0} (f : A → List ℕ) (w : ℕ) (width : (x : A) → length (f x) ≡ w) where
  pub length_rows : (xs : List A) → length (each xs f) ≡ w * length xs
  length_rows [] = sym (mul-zero w)
  length_rows (x ∷ xs) = length-append (f x) (each xs f) ∙ omega (arith, width x, length_rows xs, mul-suc w (length xs))

  pub rows_begin : {xs : List A} {l₀ : List ℕ} → Rows f w xs l₀ 0 l₀
  rows_begin {l₀ = l₀} = record { is = sym (ap (λ (n : ℕ). drop n l₀) (mul-zero w)) }

  module _ {xs : List A} {l₀ l : List ℕ} {i : ℕ} (r : Rows f w xs l₀ i l) where
    pub rows_more : (b : List ℕ) (z : A) → i < length xs → b ≡ f (get_or xs i z) → Rows f w xs l₀ (i + 1) (paste l (w * i) b w)
    rows_more b z h e =
        let front = each (take i xs) f in
        let m : length front ≡ w * i = length_rows (take i xs) ∙ ap (λ (n : ℕ). w * n) (length-take-le i xs (omega (arith, h))) in
        let t : take (w * i) l ≡ front = ap (take (w * i)) r.is ∙ take_at front (drop (w * i) l₀) (w * i) m in
        let k : take w b ≡ b = take_all w b (omega (arith, ap length e ∙ width (get_or xs i z))) in
        let more : w * i + w ≡ w * (i + 1) = omega (arith, mul-suc w i, ap (λ (n : ℕ). w * n) (add-one i)) in
        let q : drop (w * i + w) l ≡ drop (w * (i + 1)) l₀ =
        ap (drop (w * i + w)) r.is
        ∙ ap (λ (n : ℕ). drop (n + w) (front ++ drop (w * i) l₀)) (sym m)
        ∙ drop-append-add front (drop (w * i) l₀) w
        ∙ drop-drop w (w * i) l₀
        ∙ ap (λ (n : ℕ). drop n l₀) more in
        let n : each (take (i + 1) xs) f ≡ front ++ b =
        ap (λ (n : ℕ). each (take n xs) f) (add-one i)
        ∙ ap (λ (ys : List A). each ys f) (take-suc xs i z h)
        ∙ rows_append f (take i xs) (get_or xs i z ∷ [])
        ∙ ap (λ (x : List ℕ). front ++ x) (rows_one f (get_or xs i z) ∙ sym e) in
        record {
          is =
              ap (λ (x : List ℕ). x ++ take w b ++ drop (w * i + w) l) t
              ∙ ap (λ (x : List ℕ). front ++ x ++ drop (w * i + w) l) k
              ∙ ap (λ (x : List ℕ). front ++ b ++ x) q
              ∙ ap (λ (x : List ℕ). x ++ drop (w * (i + 1)) l₀) (sym n);
        }
