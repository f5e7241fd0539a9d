-- The entries are in rising order.
use mathlib.Core.Path.{◌≡◌, refl, sym, ◌∙◌}
use mathlib.Core.Bool.{Bool, true, false, cond, false≢true, or-true}
use mathlib.Core.List.{List, [], ◌∷◌, ◌++◌, Memᴰ}
use Prim.Native.Nat.{ℕ, zero, suc, ◌≤◌, ◌<◌}
use native.Mathlib.Omega.{arith}
use lib.Dec.{eqb, ltb}
use borrow.Author.Tests.{eq-eqb, lt-ltb, eqb-true}
use Rattle.laws.specs.Words.{Every, each}
use Rattle.laws.proofs.Lists.{every_map, every_append, and_l, and_r}
use Rattle.meter.specs.PlainMeter.{PlainMeter}
use Rattle.search_walk.specs.Walk.{Entry, one, mute, ten}
use Rattle.search_walk.specs.Entries.{reading_fails, lone_entry, having, begins, key, comes_before, Rising}
use Rattle.search_walk.proofs.Sums.{each-each}
use Rattle.search_walk.proofs.Cut.{traced, trace, all}
use Rattle.search_walk.proofs.Bound.{range, ten_range}
use Rattle.search_walk.proofs.Limit.{full}
use Rattle.search_walk.proofs.Once.{keep-true}

abbrev Under : List ℕ → Entry → Type 0
Under p e = begins p (key e) ≡ true

rising_append : (xs ys : List Entry) → Rising xs → Rising ys → Every (λ x. Every (λ y. comes_before (key x) (key y) ≡ true) ys) xs → Rising (xs ++ ys)
rising_append [] ys h k b = k
rising_append (x ∷ xs) ys h k b = (every_append (λ y. comes_before (key x) (key y) ≡ true) xs ys h.0 b.0, rising_append xs ys h.1 k b.1)

-- ---- prefixes

begins-refl : (p : List ℕ) → begins p p ≡ true
begins-refl [] = refl
begins-refl (d ∷ p) = rw (eq-eqb d d refl) (begins-refl p)

begins_shorter : (p q x : List ℕ) → begins (p ++ q) x ≡ true → begins p x ≡ true
begins_shorter [] q x h = refl
begins_shorter (d ∷ p) q [] h = h
begins_shorter (d ∷ p) q (y ∷ x) h =
    rw (and_l (eqb d y) (begins (p ++ q) x) h) (begins_shorter p q x (and_r (eqb d y) (begins (p ++ q) x) h))

first-at : (p : List ℕ) (d e : ℕ) (x y : List ℕ) → d < e → begins (p ++ d ∷ []) x ≡ true → begins (p ++ e ∷ []) y ≡ true → comes_before x y ≡ true
first-at [] d e [] y l h k = absurd (false≢true h)
first-at [] d e (a ∷ x) [] l h k = absurd (false≢true k)
first-at [] d e (a ∷ x) (b ∷ y) l h k = rw (lt-ltb a b (omega (arith, eqb-true d a (and_l (eqb d a) true h), eqb-true e b (and_l (eqb e b) true k))))
first-at (c ∷ p) d e [] y l h k = absurd (false≢true h)
first-at (c ∷ p) d e (a ∷ x) [] l h k = absurd (false≢true k)
first-at (c ∷ p) d e (a ∷ x) (b ∷ y) l h k =
    rw (
      eq-eqb a b (sym (eqb-true c a (and_l (eqb c a) _ h)) ∙ eqb-true c b (and_l (eqb c b) _ k)),
      first-at p d e x y l (and_r (eqb c a) _ h) (and_r (eqb c b) _ k),
    ) (or-true (ltb a b))

-- ---- a row

module _ (p : List ℕ) (f : ℕ → List Entry) (up : (d : ℕ) → Rising (f d)) (in-it : (d : ℕ) → Every (Under (p ++ d ∷ [])) (f d)) where
  -- an entry of the row from the digit i on
  abbrev From : ℕ → Entry → Type 0
  From i e = (d : ℕ) × (i ≤ d) × Under (p ++ d ∷ []) e

  row_from : (i n : ℕ) → Every (From i) (each (range i n) f)
  row_from i zero = tt
  row_from i (suc n) =
      every_append (From i) (f i) (each (range (suc i) n) f) (every_map (λ e h. (i, omega arith, h)) (f i) (in-it i))
      (every_map (λ e h. (h.0, omega arith, h.2)) (each (range (suc i) n) f) (row_from (suc i) n))

  row_rising : (i n : ℕ) → Rising (each (range i n) f)
  row_rising i zero = tt
  row_rising i (suc n) =
      rising_append (f i) (each (range (suc i) n) f) (up i) (row_rising (suc i) n)
      (every_map (λ x hx. every_map (λ y hy. first-at p i hy.0 (key x) (key y) hy.1 hx hy.2) (each (range (suc i) n) f) (row_from (suc i) n))
      (f i) (in-it i))

-- ---- the walk

abbrev Good : List ℕ → List Entry → Type 0
Good p es = Rising es × Every (Under p) es

row-good : (p : List ℕ) (f : ℕ → List Entry) → ((d : ℕ) → Good (p ++ d ∷ []) (f d)) → Good p (each ten f)
row-good p f h =
    rw ten_range (
      row_rising p f (λ d. (h d).0) (λ d. (h d).1) 0 10,
      every_map (λ e k. begins_shorter p (k.0 ∷ []) (key e) k.2) (each (range 0 10) f) (row_from p f (λ d. (h d).0) (λ d. (h d).1) 0 10),
    )

lone_under : (p : List ℕ) (m : PlainMeter) → begins p m.digits ≡ true → Under p (lone_entry p m)
lone_under p m h = go (reading_fails m)
  where
    go : (b : Bool) → begins p (key (cond b (mute p) (one m.digits))) ≡ true
    go true = begins-refl p
    go false = h

node : (p : List ℕ) (hs : List PlainMeter) (e : List Entry) (t : List (List Entry)) → ((k : PlainMeter) → Memᴰ k hs → begins p k.digits ≡ true)
    → Good p (e ++ all t) → Good p (all (traced p hs e t))
unfolding all
node p [] e t is g = (tt, tt)
node p (k ∷ []) e t is g = ((tt, tt), (lone_under p k (is k (Memᴰ.head refl)), tt))
node p (k ∷ n ∷ hs) e t is g = g

good : (u : ℕ) (ms : List PlainMeter) (p : List ℕ) → Good p (all (trace u ms p))
unfolding trace all
good zero ms p = node p (having ms p) _ [] (λ k. keep-true (λ m. begins p m.digits) k ms) ((tt, tt), (begins-refl p, tt))
good (suc u) ms p =
    node p (having ms p) [] _ (λ k. keep-true (λ m. begins p m.digits) k ms)
    (rw (each-each ten (λ d. trace u ms (p ++ d ∷ [])) (λ e. e)) (row-good p (λ d. all (trace u ms (p ++ d ∷ []))) (λ d. good u ms (p ++ d ∷ []))))

pub full_rising : (ms : List PlainMeter) → Rising (full ms)
unfolding full
full_rising ms = (good 8 ms []).0
