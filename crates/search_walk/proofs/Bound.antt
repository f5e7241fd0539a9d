-- 1 + 10 * D is bounded by the number of meters.
use mathlib.Core.Path.{◌≡◌, refl, sym, ap, ◌∙◌, fun_ext}
use mathlib.Core.Bool.{Bool, true, false, ◌&&◌, and-true}
use mathlib.Core.List.{List, [], ◌∷◌, ◌++◌}
use Prim.Native.Nat.{ℕ, zero, suc, ◌+◌, ◌*◌, ◌/◌, ◌^◌, ◌≤◌, ◌<◌, min, zero-le}
use native.Mathlib.Omega.{arith}
use native.Mathlib.Nat.{pow-succ'}
use lib.Dec.{leb, eqb}
use lib.ListN.{length}
use borrow.Author.Tests.{eqb-true, ne_eqb, leb-true}
use Rattle.laws.specs.Words.{bit_if}
use Rattle.meter.specs.PlainMeter.{PlainMeter}
use Rattle.search_walk.specs.Walk.{ten}
use Rattle.search_walk.specs.Entries.{having, begins, shared, sum_to, prefixes, D}
use Rattle.search_walk.proofs.Sums.{total, total_add, total_zero, total_le, count, count_cons, count_le, length_total, total_const, total_prefixes, sum_to_le, sum_to-zero, ten-length}

-- ---- the digits are different from each other

abbrev pub range : ℕ → ℕ → List ℕ
range i zero = []
range i (suc n) = i ∷ range (suc i) n

pub ten_range : ten ≡ range 0 10
unfolding ten
ten_range = refl

pub miss : (i n x : ℕ) → x < i → total (range i n) (λ d. bit_if (eqb d x)) ≡ 0
unfolding total
miss i zero x h = refl
miss i (suc n) x h = rw (ne_eqb i x (λ e. omega arith)) (omega (arith, miss (suc i) n x (omega arith)))

-- one of the ten is x, if x is a digit at all
pub digit_le : (i n x : ℕ) → total (range i n) (λ d. bit_if (eqb d x)) ≤ 1
unfolding total
digit_le i zero x = zero-le
digit_le i (suc n) x = go (eqb i x) refl (digit_le (suc i) n x)
  where
    go : (b : Bool) → eqb i x ≡ b → total (range (suc i) n) (λ d. bit_if (eqb d x)) ≤ 1 → bit_if b + total (range (suc i) n) (λ d. bit_if (eqb d x)) ≤ 1
    go true e h = omega (arith, miss (suc i) n x (omega (arith, eqb-true i x e)))
    go false e h = omega arith

-- ---- the ten prefixes with one digit more have no more meters than the prefix itself

split_one : (p id : List ℕ) → total ten (λ d. bit_if (begins (p ++ d ∷ []) id)) ≤ bit_if (begins p id)
split_one [] [] = omega (arith, total_zero ten)
split_one [] (x ∷ id) = simp (and-true, ten_range) (digit_le 0 10 x)
split_one (e ∷ p) [] = omega (arith, total_zero ten)
split_one (e ∷ p) (x ∷ id) = go (eqb e x) (split_one p id)
  where
    go : (b : Bool) → total ten (λ d. bit_if (begins (p ++ d ∷ []) id)) ≤ bit_if (begins p id)
        → total ten (λ d. bit_if (b && begins (p ++ d ∷ []) id)) ≤ bit_if (b && begins p id)
    go true h = h
    go false h = omega (arith, total_zero ten)

count_split {ℓ} : {A : Type ℓ} (ds : List ℕ) (t : ℕ → A → Bool) (s : A → Bool) → ((x : A) → total ds (λ d. bit_if (t d x)) ≤ bit_if (s x))
    → (xs : List A) → total ds (λ d. count (t d) xs) ≤ count s xs
count_split ds t s h [] = omega (arith, total_zero ds)
count_split ds t s h (x ∷ xs) =
    omega (
      arith,
      ap (total ds) (fun_ext λ d. count_cons (t d) x xs),
      total_add ds (λ d. bit_if (t d x)) (λ d. count (t d) xs),
      h x,
      count_cons s x xs,
      count_split ds t s h xs,
    )

pub split : (ms : List PlainMeter) (p : List ℕ) → total ten (λ d. length (having ms (p ++ d ∷ []))) ≤ length (having ms p)
split ms p = count_split ten (λ d m. begins (p ++ d ∷ []) m.digits) (λ m. begins p m.digits) (λ m. split_one p m.digits) ms

-- ---- the prefixes of one length

prefixes-length : (k : ℕ) → length (prefixes k) ≡ 10 ^ k
unfolding prefixes
prefixes-length zero = refl
prefixes-length (suc k) =
    simp (length_total, total_prefixes) (simp (← length_total, prefixes-length k, total_const, ten-length) (sym (pow-succ' 10 k)))

prefixes_le : (k : ℕ) (f : List ℕ → ℕ) → ((p : List ℕ) → total ten (λ d. f (p ++ d ∷ [])) ≤ f p) → total (prefixes k) f ≤ f []
unfolding total prefixes
prefixes_le zero f h = omega arith
prefixes_le (suc k) f h =
    omega (
      arith,
      total_prefixes k f,
      h [],
      total_le ten (λ d. total (prefixes k) (λ q. f (d ∷ q))) (λ d. f (d ∷ [])) (λ d. prefixes_le k (λ q. f (d ∷ q)) (λ p. h (d ∷ p))),
    )

twice : (f : List ℕ → ℕ) (ps : List (List ℕ)) → 2 * count (λ p. leb 2 (f p)) ps ≤ total ps f
unfolding total
twice f [] = zero-le
twice f (p ∷ ps) = omega (arith, count_cons (λ q. leb 2 (f q)) p ps, twice f ps, go (leb 2 (f p)) refl)
  where
    go : (b : Bool) → leb 2 (f p) ≡ b → 2 * bit_if b ≤ f p
    go true e = omega (arith, leb-true 2 (f p) e)
    go false e = zero-le

at_length : (ms : List PlainMeter) (k : ℕ) → count (shared ms) (prefixes k) ≤ min (10 ^ k) (length ms / 2)
at_length ms k =
    omega (
      arith,
      count_le (shared ms) (prefixes k),
      prefixes-length k,
      twice (λ p. length (having ms p)) (prefixes k),
      prefixes_le k (λ p. length (having ms p)) (split ms),
      count_le (λ (m : PlainMeter). true) ms,
    )

pub D_le : (ms : List PlainMeter) → D ms ≤ sum_to 8 (λ k. min (10 ^ k) (length ms / 2))
unfolding D
D_le ms = sum_to_le 8 (λ k. count (shared ms) (prefixes k)) (λ k. min (10 ^ k) (length ms / 2)) (at_length ms)

-- no meter or one: no prefix is shared, so that one probe is the price
pub D_none : (ms : List PlainMeter) → length ms ≤ 1 → D ms ≡ 0
D_none ms h = omega (arith, D_le ms, nothing 8)
  where
    nothing : (n : ℕ) → sum_to n (λ k. min (10 ^ k) (length ms / 2)) ≡ 0
    nothing n = ap (sum_to n) (fun_ext λ k. omega arith) ∙ sum_to-zero n
