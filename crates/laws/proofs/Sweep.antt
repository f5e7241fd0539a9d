-- A loop that replaces the first elements of an array by f of each, and carries a state through them by g: its
-- invariant, a turn, the end.
-- xs is the array where the loop began, ms as it is now; s₀ and s are the state then and now.
use mathlib.Core.Path.{◌≡◌, refl, sym, ap, ◌∙◌}
use mathlib.Core.List.{List, [], ◌∷◌, map}
use Prim.Native.Nat.{ℕ, zero, suc, ◌+◌, ◌≤◌, ◌<◌}
use native.Mathlib.Nat.{le_of_suc-le-suc, not-suc-le-zero}
use lib.ListN.{length, take, set, get_or, length-map}
use lib.Seq.{take_all}
use Rattle.std.specs.List.{fold}
use Rattle.std.proofs.lemmas.List.Sums.{fold_more}
use Rattle.laws.specs.Sweep.{swept}

module _ {A : Type 0} (f : A → A) where
  pub get_d_swept : (xs : List A) (i : ℕ) (d : A) → i < length xs → get_or (swept f i xs) i d ≡ get_or xs i d
  get_d_swept [] i d h = absurd (not-suc-le-zero h)
  get_d_swept (x ∷ xs) zero d h = refl
  get_d_swept (x ∷ xs) (suc i) d h = get_d_swept xs i d (le_of_suc-le-suc h)

  pub set_swept : (xs : List A) (i : ℕ) (d : A) → i < length xs → set (swept f i xs) i (f (get_or xs i d)) ≡ swept f (suc i) xs
  set_swept [] i d h = absurd (not-suc-le-zero h)
  set_swept (x ∷ xs) zero d h = refl
  set_swept (x ∷ xs) (suc i) d h = ap (λ (r : List A). f x ∷ r) (set_swept xs i d (le_of_suc-le-suc h))

-- a loop over a slice that carries a state: its invariant, a turn, the end
pub record Folded {A S : Type 0} (g : S → A → S) (s₀ : S) (xs : List A) (i : ℕ) (s : S) : Type 0 where
  pub is : s ≡ fold g s₀ (take i xs)

module _ {A S : Type 0} {g : S → A → S} {s₀ : S} {xs : List A} where
  pub folded_none : Folded g s₀ xs 0 s₀
  folded_none = record { is = refl }

  pub folded_more : {i : ℕ} {s t : S} (d : A) → Folded g s₀ xs i s → i < length xs → t ≡ g s (get_or xs i d) → Folded g s₀ xs (i + 1) t
  folded_more {i} d r h e = record { is = rw (e, r.is) (sym (fold_more g s₀ xs i d h)) }

  pub folded_whole : {i : ℕ} {s : S} → Folded g s₀ xs i s → length xs ≤ i → s ≡ fold g s₀ xs
  folded_whole {i} r h = r.is ∙ ap (fold g s₀) (take_all i xs h)

-- what owning an array of structs within a struct tells of its list's length, for `search (needs, length-mapped)`
pub length_mapped : (X Y : Type 0) (f : X → Y) (l : List X) (n : ℕ) → length (map f l) ≡ n → length l ≡ n
length_mapped X Y f l n p = sym (length-map l f) ∙ p
