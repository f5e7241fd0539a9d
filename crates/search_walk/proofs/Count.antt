-- The walk without an allowance makes 1 + 10 * D probes.
use mathlib.Core.Path.{◌≡◌, ap, ◌∙◌, fun_ext}
use mathlib.Core.Bool.{Bool, true, false, ◌&&◌}
use mathlib.Core.List.{List, [], ◌∷◌, ◌++◌, append-nil}
use Prim.Native.Nat.{ℕ, zero, suc, ◌+◌, ◌*◌, ◌≤◌, zero-le}
use native.Mathlib.Omega.{arith}
use lib.Dec.{leb, eqb}
use lib.Seq.{append_snoc}
use lib.ListN.{length}
use borrow.Author.Tests.{lt-leb, le-leb}
use Rattle.laws.specs.Words.{each, bit_if}
use Rattle.meter.specs.PlainMeter.{PlainMeter}
use Rattle.search_walk.specs.Walk.{Entry, ten}
use Rattle.search_walk.specs.Entries.{having, begins, shared, D}
use Rattle.search_walk.proofs.Sums.{total, total_rows, count, count_cons, counts, counts_suc, counts_none, length-each, counts_zero, ten-length}
use Rattle.search_walk.proofs.Cut.{traced, trace}

-- ---- fewer meters have a longer prefix

bit_if_le_one : (b : Bool) → bit_if b ≤ 1
bit_if_le_one true = omega arith
bit_if_le_one false = omega arith

begins_append : (p q id : List ℕ) → bit_if (begins (p ++ q) id) ≤ bit_if (begins p id)
begins_append [] q id = bit_if_le_one (begins q id)
begins_append (d ∷ p) q [] = omega arith
begins_append (d ∷ p) q (x ∷ id) = go (eqb d x) (begins_append p q id)
  where
    go : (b : Bool) → bit_if (begins (p ++ q) id) ≤ bit_if (begins p id) → bit_if (b && begins (p ++ q) id) ≤ bit_if (b && begins p id)
    go true h = h
    go false h = zero-le

count_weaker {ℓ} : {A : Type ℓ} (s t : A → Bool) → ((x : A) → bit_if (s x) ≤ bit_if (t x)) → (xs : List A) → count s xs ≤ count t xs
count_weaker s t h [] = zero-le
count_weaker s t h (x ∷ xs) = omega (arith, count_cons s x xs, count_cons t x xs, h x, count_weaker s t h xs)

pub having_append : (ms : List PlainMeter) (p q : List ℕ) → length (having ms (p ++ q)) ≤ length (having ms p)
having_append ms p q = count_weaker (λ m. begins (p ++ q) m.digits) (λ m. begins p m.digits) (λ m. begins_append p q m.digits) ms

-- below a prefix that no two meters share, no prefix is shared
pub unshared : (ms : List PlainMeter) (p q : List ℕ) → length (having ms p) ≤ 1 → shared ms (p ++ q) ≡ false
unshared ms p q h = lt-leb 2 (length (having ms (p ++ q))) (omega (arith, having_append ms p q))

-- ---- the price

abbrev pub shared_below : ℕ → List PlainMeter → List ℕ → ℕ
shared_below u ms p = counts u (λ q. shared ms (p ++ q))

-- a node's row: ten nodes with one digit more
below : (u : ℕ) (ms : List PlainMeter) (p : List ℕ) → shared ms p ≡ true → shared_below (suc u) ms p ≡ 1 + total ten (λ d. shared_below u ms (p ++ d ∷ []))
below u ms p e = counts_suc u (λ q. shared ms (p ++ q)) ∙ simp (append-nil, append_snoc, e)

traced_length : (p : List ℕ) (hs : List PlainMeter) (e : List Entry) (t : List (List Entry)) (n : ℕ)
    → (length hs ≤ 1 → n ≡ 0) → (leb 2 (length hs) ≡ true → length t ≡ 10 * n) → length (traced p hs e t) ≡ 1 + 10 * n
traced_length p [] e t n f g = omega (arith, f (omega arith))
traced_length p (m ∷ []) e t n f g = omega (arith, f (omega arith))
traced_length p (m ∷ k ∷ hs) e t n f g = omega (arith, g (le-leb 2 (suc (suc (length hs))) (omega arith)))

row-length : (u : ℕ) (ms : List PlainMeter) (p : List ℕ) → shared ms p ≡ true
    → ((d : ℕ) → length (trace u ms (p ++ d ∷ [])) ≡ 1 + 10 * shared_below u ms (p ++ d ∷ []))
    → length (each ten (λ d. trace u ms (p ++ d ∷ []))) ≡ 10 * shared_below (suc u) ms p
row-length u ms p e h =
    omega (
      arith,
      length-each (λ d. trace u ms (p ++ d ∷ [])) ten,
      ap (total ten) (fun_ext h),
      total_rows ten (λ d. shared_below u ms (p ++ d ∷ [])),
      ten-length,
      below u ms p e,
    )

pub trace_length : (u : ℕ) (ms : List PlainMeter) (p : List ℕ) → length (trace u ms p) ≡ 1 + 10 * shared_below u ms p
unfolding trace
trace_length zero ms p = traced_length p (having ms p) _ _ _ (λ h. counts_zero _) (λ h. omega (arith, counts_zero (λ q. shared ms (p ++ q))))
trace_length (suc u) ms p = traced_length p (having ms p) _ _ _ (λ h. counts_none (suc u) _ (λ q. unshared ms p q h)) (λ h. row-length u ms p h (λ d. trace_length u ms (p ++ d ∷ [])))

pub trace_D : (ms : List PlainMeter) → length (trace 8 ms []) ≡ 1 + 10 * D ms
unfolding D counts
trace_D ms = trace_length 8 ms []
