-- A loop over marks, each with its key, that carries a number: its invariant, a turn, the end.
use Rattle.std.proofs.Common.{◌≡◌, ℕ, zero, suc, ◌+◌, ◌<◌, List, [], ◌∷◌, length, get_or, set, sym, refl, ap, ◌∙◌, le_of_suc-le-suc, not-suc-le-zero, add-one}
use Rattle.search_packed.specs.ProgramMarks.{swept_by, fold_by}

module _ {K S : Type 0} (f : K → S → S) where
  same_at : (ks : List K) (ss : List S) (i : ℕ) (d : S) → i < length ss → get_or (swept_by f i ks ss) i d ≡ get_or ss i d
  same_at ks ss zero d h = refl
  same_at [] ss (suc i) d h = refl
  same_at (k ∷ ks) [] (suc i) d h = absurd (not-suc-le-zero h)
  same_at (k ∷ ks) (s ∷ ss) (suc i) d h = same_at ks ss i d (le_of_suc-le-suc h)

  set_at : (ks : List K) (ss : List S) (i : ℕ) (c : K) (d : S) → i < length ks → i < length ss → set (swept_by f i ks ss) i (f (get_or ks i c) (get_or ss i d)) ≡ swept_by f (suc i) ks ss
  set_at [] ss i c d h l = absurd (not-suc-le-zero h)
  set_at (k ∷ ks) [] i c d h l = absurd (not-suc-le-zero l)
  set_at (k ∷ ks) (s ∷ ss) zero c d h l = refl
  set_at (k ∷ ks) (s ∷ ss) (suc i) c d h l = ap (λ (r : List S). f k s ∷ r) (set_at ks ss i c d (le_of_suc-le-suc h) (le_of_suc-le-suc l))

  pub swept_length : (n : ℕ) (ks : List K) (ss : List S) → length (swept_by f n ks ss) ≡ length ss
  swept_length zero ks ss = refl
  swept_length (suc n) [] ss = refl
  swept_length (suc n) (k ∷ ks) [] = refl
  swept_length (suc n) (k ∷ ks) (s ∷ ss) = ap suc (swept_length n ks ss)

module _ {K S : Type 0} (g : ℕ → K → S → ℕ) where
  fold_suc : (a : ℕ) (ks : List K) (ss : List S) (i : ℕ) (c : K) (d : S) → i < length ks → i < length ss → fold_by g a (suc i) ks ss ≡ g (fold_by g a i ks ss) (get_or ks i c) (get_or ss i d)
  fold_suc a [] ss i c d h l = absurd (not-suc-le-zero h)
  fold_suc a (k ∷ ks) [] i c d h l = absurd (not-suc-le-zero l)
  fold_suc a (k ∷ ks) (s ∷ ss) zero c d h l = refl
  fold_suc a (k ∷ ks) (s ∷ ss) (suc i) c d h l = fold_suc (g a k s) ks ss i c d (le_of_suc-le-suc h) (le_of_suc-le-suc l)

-- ks and xs: the keys, and the marks where the loop began; ss, a: the marks and the number now
pub record Sweep {K S : Type 0} (f : K → S → S) (g : ℕ → K → S → ℕ) (a₀ : ℕ) (ks : List K) (xs : List S) (i : ℕ) (ss : List S) (a : ℕ) : Type 0 where
  pub list : ss ≡ swept_by f i ks xs
  pub acc : a ≡ fold_by g a₀ i ks xs

module _ {K S : Type 0} {f : K → S → S} {g : ℕ → K → S → ℕ} {a₀ : ℕ} {ks : List K} {xs : List S} where
  pub sweep_none : Sweep f g a₀ ks xs 0 xs a₀
  sweep_none = record { list = refl; acc = refl }

  pub sweep_more : {i a : ℕ} {ss : List S} {v : S} {b : ℕ} (c : K) (d : S) → Sweep f g a₀ ks xs i ss a → i < length ks → i < length xs
      → v ≡ f (get_or ks i c) (get_or ss i d) → b ≡ g a (get_or ks i c) (get_or ss i d) → Sweep f g a₀ ks xs (i + 1) (set ss i v) b
  sweep_more {i} {a} {ss} {v} {b} c d s h l ev eb =
      let e : get_or ss i d ≡ get_or xs i d = ap (λ r. get_or r i d) s.list ∙ same_at f ks xs i d l in
      record {
        list = rw (ev, e, s.list, add-one) (set_at f ks xs i c d h l);
        acc = rw (eb, e, s.acc, add-one) (sym (fold_suc g a₀ ks xs i c d h l));
      }

  pub sweep_all : {i a : ℕ} {ss : List S} (e : ℕ) → Sweep f g a₀ ks xs i ss a → i ≡ e → (ss ≡ swept_by f e ks xs) × (a ≡ fold_by g a₀ e ks xs) × (length ss ≡ length xs)
  sweep_all {i} e s p = (s.list ∙ ap (λ j. swept_by f j ks xs) p, s.acc ∙ ap (λ j. fold_by g a₀ j ks xs) p, ap length s.list ∙ swept_length f i ks xs)
