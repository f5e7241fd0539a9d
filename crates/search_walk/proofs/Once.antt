-- Each meter is in exactly one entry.
use mathlib.Core.Path.{◌≡◌, refl, sym, ap, ap₂, ◌∙◌}
use mathlib.Core.Logic.{◌⊎◌, inl, inr}
use mathlib.Core.Bool.{Bool, true, false, cond, ◌&&◌, true≢false, false≢true, and-true}
use mathlib.Core.List.Memᴰ
use mathlib.Core.List.{List, [], ◌∷◌, ◌++◌, Memᴰ}
use Prim.Native.Nat.{ℕ, zero, suc, ◌+◌, ◌≤◌, ◌<◌, zero-le}
use native.Mathlib.Omega.{arith}
use lib.Dec.{eqb}
use lib.ListN.{length, length-append}
use borrow.Author.Tests.{eq-eqb, eqb-true, eqb-false}
use Rattle.laws.specs.Words.{keep, same_list, each, bit_if}
use Rattle.laws.proofs.Lists.{and_l, and_r}
use Rattle.meter.specs.PlainMeter.{PlainMeter}
use Rattle.search_walk.specs.Walk.{Entry, one, mute, many, ten}
use Rattle.search_walk.specs.Entries.{reading_fails, lone_entry, having, begins, in_entry}
use Rattle.search_walk.proofs.Model.{Digits, Prefix, no_digit, ten_digits, prefix_longer}
use Rattle.search_walk.proofs.Sums.{total, total_zero, total_each, count, count_total, count_cons}
use Rattle.search_walk.proofs.Cut.{traced, trace, all}
use Rattle.search_walk.proofs.Bound.{range, ten_range, miss}
use Rattle.search_walk.proofs.Limit.{full}
use Rattle.search_walk.proofs.MaskLaws.{alike-mask}

-- ---- a digit is one of the ten

hit : (i n x : ℕ) → i ≤ x → x < i + n → total (range i n) (λ d. bit_if (eqb d x)) ≡ 1
unfolding total
hit i zero x h k = absurd (omega arith)
hit i (suc n) x h k = go (eqb i x) refl (λ l. hit (suc i) n x l (omega arith))
  where
    go : (b : Bool) → eqb i x ≡ b → (suc i ≤ x → total (range (suc i) n) (λ d. bit_if (eqb d x)) ≡ 1) → bit_if b + total (range (suc i) n) (λ d. bit_if (eqb d x)) ≡ 1
    go true e r = omega (arith, miss (suc i) n x (omega (arith, eqb-true i x e)))
    go false e r = omega (arith, r (omega (arith, eqb-false i x e)))

-- an id goes on with just one of the ten digits
next : (p id : List ℕ) → Digits id → length p < length id → total ten (λ d. bit_if (begins (p ++ d ∷ []) id)) ≡ bit_if (begins p id)
next p [] g h = absurd (omega arith)
next [] (x ∷ id) g h = simp (and-true, ten_range) (hit 0 10 x zero-le g.0)
next (e ∷ p) (x ∷ id) g h = go (eqb e x) (next p id g.1 (omega arith))
  where
    go : (b : Bool) → total ten (λ d. bit_if (begins (p ++ d ∷ []) id)) ≡ bit_if (begins p id)
        → total ten (λ d. bit_if (b && begins (p ++ d ∷ []) id)) ≡ bit_if (b && begins p id)
    go true k = k
    go false k = total_zero ten

total_digits : (ds : List ℕ) → Digits ds → (f g : ℕ → ℕ) → ((d : ℕ) → d < 10 → f d ≡ g d) → total ds f ≡ total ds g
unfolding total
total_digits [] h f g e = refl
total_digits (d ∷ ds) h f g e = ap₂ (λ x y. x + y) (e d h.0) (total_digits ds h.1 f g e)

-- ---- the test for the same digits

same_refl : (xs : List ℕ) → same_list xs xs ≡ true
same_refl [] = refl
same_refl (x ∷ xs) = rw (eq-eqb x x refl) (same_refl xs)

same_begins : (p id : List ℕ) → length p ≡ length id → same_list p id ≡ begins p id
same_begins [] [] h = refl
same_begins [] (x ∷ id) h = absurd (omega arith)
same_begins (d ∷ p) [] h = refl
same_begins (d ∷ p) (x ∷ id) h = rw (same_begins p id (omega arith))

pub same_eq : (xs ys : List ℕ) → same_list xs ys ≡ true → xs ≡ ys
same_eq [] [] e = refl
same_eq [] (y ∷ ys) e = absurd (false≢true e)
same_eq (x ∷ xs) [] e = absurd (false≢true e)
same_eq (x ∷ xs) (y ∷ ys) e =
    ap₂ (λ a as'. a ∷ as') (eqb-true x y (and_l (eqb x y) (same_list xs ys) e)) (same_eq xs ys (and_r (eqb x y) (same_list xs ys) e))

-- of two ids, one with the prefix and one without
same_apart : (p xs ys : List ℕ) → begins p xs ≡ true → begins p ys ≡ false → same_list xs ys ≡ false
same_apart p xs ys h k = go (same_list xs ys) refl
  where
    go : (b : Bool) → same_list xs ys ≡ b → b ≡ false
    go true e = absurd (true≢false (sym h ∙ ap (begins p) (same_eq xs ys e) ∙ k))
    go false e = refl

-- ---- members of a filtered list

pub keep-mem {ℓ} : {A : Type ℓ} (t : A → Bool) {x : A} {xs : List A} → Memᴰ x xs → t x ≡ true → Memᴰ x (keep t xs)
keep-mem t (Memᴰ.head e) h = rw (sym (ap t e) ∙ h) (Memᴰ.head e)
keep-mem {A} t {x} (Memᴰ.tail {x = y} {xs = ys} m) h = go (t y) (keep-mem t m h)
  where
    go : (b : Bool) → Memᴰ x (keep t ys) → Memᴰ x (cond b (y ∷ keep t ys) (keep t ys))
    go true r = Memᴰ.tail r
    go false r = r

pub keep-true {ℓ} : {A : Type ℓ} (t : A → Bool) (x : A) (xs : List A) → Memᴰ x (keep t xs) → t x ≡ true
keep-true t x [] m = absurd (Memᴰ.not-nil m)
keep-true t x (y ∷ xs) m = go (t y) refl m (keep-true t x xs)
  where
    cases : t y ≡ true → (Memᴰ x (keep t xs) → t x ≡ true) → (x ≡ y) ⊎ Memᴰ x (keep t xs) → t x ≡ true
    cases e r (inl q) = ap t q ∙ e
    cases e r (inr k) = r k

    go : (b : Bool) → t y ≡ b → Memᴰ x (cond b (y ∷ keep t xs) (keep t xs)) → (Memᴰ x (keep t xs) → t x ≡ true) → t x ≡ true
    go true e k r = cases e r (Memᴰ.cases_cons k)
    go false e k r = r k

count_all {ℓ} : {A B : Type ℓ} (t : B → Bool) (xs : List A) (f : A → List (List B)) → count t (all (each xs f)) ≡ total xs (λ x. count t (all (f x)))
unfolding all
count_all t xs f = simp (count_total, total_each)

-- ---- a node

module _ (m : PlainMeter) where
  lone_in : (p : List ℕ) → Prefix p → length m.digits ≡ 8 → (k : PlainMeter) → (begins p m.digits ≡ true → m ≡ k) → begins p k.digits ≡ true
      → in_entry m (lone_entry p k) ≡ begins p m.digits
  lone_in p w eight k is h = go (reading_fails k)
    where
      by : (b : Bool) → begins p m.digits ≡ b → same_list k.digits m.digits ≡ b
      by true e = rw (is e) (same_refl k.digits)
      by false e = same_apart p k.digits m.digits h e

      go : (b : Bool) → in_entry m (cond b (mute p) (one k.digits)) ≡ begins p m.digits
      go true = alike-mask p m.digits w eight
      go false = by (begins p m.digits) refl

  node : (p : List ℕ) → Prefix p → length m.digits ≡ 8 → (hs : List PlainMeter) (e : List Entry) (t : List (List Entry))
      → (begins p m.digits ≡ true → Memᴰ m hs) → ((k : PlainMeter) → Memᴰ k hs → begins p k.digits ≡ true)
      → (2 ≤ length hs → count (in_entry m) (e ++ all t) ≡ bit_if (begins p m.digits))
      → count (in_entry m) (all (traced p hs e t)) ≡ bit_if (begins p m.digits)
  unfolding all
  node p w eight [] e t mem is several = go (begins p m.digits) refl
    where
      go : (b : Bool) → begins p m.digits ≡ b → 0 ≡ bit_if b
      go true q = absurd (Memᴰ.not-nil (mem q))
      go false q = refl
  node p w eight (k ∷ []) e t mem is several =
      count_cons (in_entry m) (lone_entry p k) [] ∙ rw (lone_in p w eight k (λ q. Memᴰ.eq_of_singleton (mem q)) (is k (Memᴰ.head refl))) (omega arith)
  node p w eight (k ∷ n ∷ hs) e t mem is several = several (omega arith)

  module _ (ms : List PlainMeter) (here : Memᴰ m ms) (good : Digits m.digits) (eight : length m.digits ≡ 8) where
    once : (u : ℕ) (p : List ℕ) → Prefix p → length p + u ≡ 8 → count (in_entry m) (all (trace u ms p)) ≡ bit_if (begins p m.digits)
    unfolding trace all
    once zero p w h =
        node p w eight (having ms p) _ _ (keep-mem (λ k. begins p k.digits) here) (λ k. keep-true (λ k. begins p k.digits) k ms)
        (λ several. count_cons (in_entry m) (many p (length (having ms p))) [] ∙ rw (same_begins p m.digits (omega arith)) (omega arith))
    once (suc u) p w h =
        node p w eight (having ms p) _ _ (keep-mem (λ k. begins p k.digits) here) (λ k. keep-true (λ k. begins p k.digits) k ms)
        (λ several. count_all (in_entry m) ten (λ d. trace u ms (p ++ d ∷ []))
        ∙ total_digits ten ten_digits _ _ (λ d l. once u (p ++ d ∷ []) (prefix_longer p d w (omega arith) l) (omega (arith, length-append p (d ∷ []))))
        ∙ next p m.digits good (omega arith))

    pub in_one : count (in_entry m) (full ms) ≡ 1
    unfolding full
    in_one = once 8 [] no_digit refl
