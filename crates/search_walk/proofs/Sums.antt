-- Sums over lists and ranges, counts, and the prefixes of each length.
use mathlib.Core.Path.{◌≡◌, refl, sym, ap, ◌∙◌, fun_ext}
use mathlib.Core.Bool.{Bool, true, false, cond}
use mathlib.Core.List.{List, [], ◌∷◌, ◌++◌, map, append_assoc}
use Prim.Native.Nat.{ℕ, zero, suc, ◌+◌, ◌*◌, ◌≤◌}
use native.Mathlib.Omega.{arith}
use lib.ListN.{length}
use Rattle.laws.specs.Words.{keep, each, bit_if}
use Rattle.search_walk.specs.Walk.{ten}
use Rattle.search_walk.specs.Entries.{sum_to, prefixes}

module _ {ℓ} {A : Type ℓ} where
  -- the sum of f over a list
  unfoldable pub total : List A → (A → ℕ) → ℕ
  total [] f = 0
  total (x ∷ xs) f = f x + total xs f

  pub total_add : (xs : List A) (f g : A → ℕ) → total xs (λ x. f x + g x) ≡ total xs f + total xs g
  unfolding total
  total_add [] f g = refl
  total_add (x ∷ xs) f g = omega (arith, total_add xs f g)

  pub total_rows : (xs : List A) (f : A → ℕ) → total xs (λ x. 1 + 10 * f x) ≡ length xs + 10 * total xs f
  unfolding total
  total_rows [] f = refl
  total_rows (x ∷ xs) f = omega (arith, total_rows xs f)

  pub total_zero : (xs : List A) → total xs (λ x. 0) ≡ 0
  unfolding total
  total_zero [] = refl
  total_zero (x ∷ xs) = omega (arith, total_zero xs)

  pub total_le : (xs : List A) (f g : A → ℕ) → ((x : A) → f x ≤ g x) → total xs f ≤ total xs g
  unfolding total
  total_le [] f g h = omega arith
  total_le (x ∷ xs) f g h = omega (arith, total_le xs f g h, h x)

pub sum_to_add : (n : ℕ) (f g : ℕ → ℕ) → sum_to n (λ k. f k + g k) ≡ sum_to n f + sum_to n g
unfolding sum_to
sum_to_add zero f g = refl
sum_to_add (suc n) f g = omega (arith, sum_to_add n (λ k. f (suc k)) (λ k. g (suc k)))

pub sum_to-zero : (n : ℕ) → sum_to n (λ k. 0) ≡ 0
unfolding sum_to
sum_to-zero zero = refl
sum_to-zero (suc n) = omega (arith, sum_to-zero n)

pub sum_to_le : (n : ℕ) (f g : ℕ → ℕ) → ((k : ℕ) → f k ≤ g k) → sum_to n f ≤ sum_to n g
unfolding sum_to
sum_to_le zero f g h = omega arith
sum_to_le (suc n) f g h = omega (arith, h 0, sum_to_le n (λ k. f (suc k)) (λ k. g (suc k)) (λ k. h (suc k)))

pub sum_to_total {ℓ} : {A : Type ℓ} (n : ℕ) (xs : List A) (f : A → ℕ → ℕ) → sum_to n (λ k. total xs (λ x. f x k)) ≡ total xs (λ x. sum_to n (f x))
unfolding total
sum_to_total n [] f = sum_to-zero n
sum_to_total n (x ∷ xs) f = omega (arith, sum_to_add n (f x) (λ k. total xs (λ y. f y k)), sum_to_total n xs f)

-- ---- counts

-- how many of a list pass a test
abbrev pub count {ℓ} : {A : Type ℓ} → (A → Bool) → List A → ℕ
count t xs = length (keep t xs)

module _ {ℓ} {A : Type ℓ} where
  pub count_cons : (t : A → Bool) (x : A) (xs : List A) → count t (x ∷ xs) ≡ bit_if (t x) + count t xs
  count_cons t x xs = go (t x)
    where
      go : (b : Bool) → length (cond b (x ∷ keep t xs) (keep t xs)) ≡ bit_if b + length (keep t xs)
      go true = omega arith
      go false = omega arith

  pub count_none : (t : A → Bool) (xs : List A) → ((x : A) → t x ≡ false) → count t xs ≡ 0
  count_none t [] h = refl
  count_none t (x ∷ xs) h = rw (h x) (count_none t xs h)

  pub count_le : (t : A → Bool) (xs : List A) → count t xs ≤ length xs
  count_le t [] = omega arith
  count_le t (x ∷ xs) = omega (arith, count_cons t x xs, count_le t xs, go (t x))
    where
      go : (b : Bool) → bit_if b ≤ 1
      go true = omega arith
      go false = omega arith

-- ---- sums over lists that are made of others

module _ {ℓ} {A : Type ℓ} where
  pub total_append : (xs ys : List A) (f : A → ℕ) → total (xs ++ ys) f ≡ total xs f + total ys f
  unfolding total
  total_append [] ys f = omega arith
  total_append (x ∷ xs) ys f = omega (arith, total_append xs ys f)

  pub total_const : (xs : List A) (c : ℕ) → total xs (λ x. c) ≡ length xs * c
  unfolding total
  total_const [] c = omega arith
  total_const (x ∷ xs) c = omega (arith, total_const xs c)

  pub count_total : (t : A → Bool) (xs : List A) → count t xs ≡ total xs (λ x. bit_if (t x))
  unfolding total
  count_total t [] = refl
  count_total t (x ∷ xs) = omega (arith, count_cons t x xs, count_total t xs)

  pub length_total : (xs : List A) → length xs ≡ total xs (λ x. 1)
  length_total xs = omega (arith, total_const xs 1)

module _ {ℓ} {A B : Type ℓ} where
  pub total_map : (g : A → B) (xs : List A) (f : B → ℕ) → total (map g xs) f ≡ total xs (λ x. f (g x))
  unfolding total
  total_map g [] f = refl
  total_map g (x ∷ xs) f = omega (arith, total_map g xs f)

  pub total_each : (xs : List A) (g : A → List B) (f : B → ℕ) → total (each xs g) f ≡ total xs (λ x. total (g x) f)
  unfolding total
  total_each [] g f = refl
  total_each (x ∷ xs) g f = omega (arith, total_append (g x) (each xs g) f, total_each xs g f)

  pub length-each : (g : A → List B) (xs : List A) → length (each xs g) ≡ total xs (λ x. length (g x))
  length-each g xs = length_total (each xs g) ∙ total_each xs g (λ y. 1) ∙ ap (total xs) (fun_ext λ x. sym (length_total (g x)))

-- ---- each

module _ {ℓ} {A B : Type ℓ} where
  pub each_append : (xs ys : List A) (f : A → List B) → each (xs ++ ys) f ≡ each xs f ++ each ys f
  each_append [] ys f = refl
  each_append (x ∷ xs) ys f = rw (each_append xs ys f) (sym (append_assoc (f x) (each xs f) (each ys f)))

  pub each_none : (xs : List A) (f : A → List B) → ((x : A) → f x ≡ []) → each xs f ≡ []
  each_none [] f h = refl
  each_none (x ∷ xs) f h = rw (h x) (each_none xs f h)

module _ {ℓ} {A B C : Type ℓ} where
  pub each_map : (xs : List A) (g : A → B) (f : B → List C) → each (map g xs) f ≡ each xs (λ x. f (g x))
  each_map [] g f = refl
  each_map (x ∷ xs) g f = rw (each_map xs g f)

  pub each-each : (xs : List A) (g : A → List B) (f : B → List C) → each (each xs g) f ≡ each xs (λ x. each (g x) f)
  each-each [] g f = refl
  each-each (x ∷ xs) g f = each_append (g x) (each xs g) f ∙ ap (λ ys. each (g x) f ++ ys) (each-each xs g f)

-- ---- the prefixes

pub total_prefixes : (k : ℕ) (f : List ℕ → ℕ) → total (prefixes (suc k)) f ≡ total ten (λ d. total (prefixes k) (λ q. f (d ∷ q)))
unfolding prefixes
total_prefixes k f = total_each ten (λ d. map (λ q. d ∷ q) (prefixes k)) f ∙ ap (total ten) (fun_ext λ d. total_map (λ q. d ∷ q) (prefixes k) f)

count_prefixes : (t : List ℕ → Bool) (k : ℕ) → count t (prefixes (suc k)) ≡ total ten (λ d. count (λ q. t (d ∷ q)) (prefixes k))
count_prefixes t k = simp (count_total, total_prefixes)

-- how many prefixes of fewer than n digits pass a test: the empty one, and for each digit those that go on with it
unfoldable pub counts : ℕ → (List ℕ → Bool) → ℕ
counts n t = sum_to n (λ k. count t (prefixes k))

pub counts_zero : (t : List ℕ → Bool) → counts 0 t ≡ 0
unfolding counts sum_to
counts_zero t = refl

pub counts_suc : (n : ℕ) (t : List ℕ → Bool) → counts (suc n) t ≡ bit_if (t []) + total ten (λ d. counts n (λ q. t (d ∷ q)))
unfolding counts sum_to prefixes
counts_suc n t = omega (arith, count_cons t [] [], rest)
  where
    rest : sum_to n (λ k. count t (prefixes (suc k))) ≡ total ten (λ d. counts n (λ q. t (d ∷ q)))
    rest = ap (sum_to n) (fun_ext λ k. count_prefixes t k) ∙ sum_to_total n ten (λ d k. count (λ q. t (d ∷ q)) (prefixes k))

pub counts_none : (n : ℕ) (t : List ℕ → Bool) → ((q : List ℕ) → t q ≡ false) → counts n t ≡ 0
unfolding counts
counts_none n t h = ap (sum_to n) (fun_ext λ k. count_none t (prefixes k) h) ∙ sum_to-zero n

pub ten-length : length ten ≡ 10
unfolding ten
ten-length = refl
