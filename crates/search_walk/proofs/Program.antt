-- The walk in the shape of a program: the entries so far are in whatever holds them.
-- Where what holds them has no room any more, it keeps what it has: entries are never more than meters, so this never
-- shows.
use Rattle.std.specs.Prelude.{if◌then◌else◌}
use mathlib.Core.Path.{◌≡◌, refl, sym, ap, ◌∙◌}
use mathlib.Core.Bool.{Bool, true, false}
use mathlib.Core.List.{List, [], ◌∷◌, ◌++◌, map}
use Prim.Native.Nat.{ℕ, zero, suc, ◌+◌, ◌≤◌}
use native.Mathlib.Omega.{arith}
use lib.Dec.{leb, ltb, leb-suc-suc}
use lib.ListN.{length, take, length-map}
use lib.Seq.{take_all, take-nil}
use borrow.Author.Tests.{lt-ltb}
use Rattle.time_clock.specs.declared.Clock.{Clock}
use Rattle.segment.specs.Plain.{Plain}
use Rattle.search_walk.specs.Walk.{Entry, many, ten, probe, read, Walked, noted, row, answered, probed, walk, whole_walk}

-- the entries held, the probes made, spent or not, the segment
pub record RunP (E S : Type 0) : Type 0 where
  pub entries : E
  pub probes : ℕ
  pub spent : Bool
  pub state : S

module _ {E S : Type 0} where
  abbrev pub stopped_p : RunP E S → RunP E S
  stopped_p t = record { entries = t.entries; probes = t.probes; spent = true; state = t.state }

  abbrev pub counted_p : S → RunP E S → RunP E S
  counted_p s t = record { entries = t.entries; probes = t.probes + 1; spent = false; state = s }

  abbrev pub row_p : List ℕ → (ℕ → RunP E S → RunP E S) → RunP E S → RunP E S
  row_p [] f t = t
  row_p (d ∷ ds) f t = row_p ds f (f d t)

module _ (E S : Type 0) (push : Entry → E → E) (probe : List ℕ → S → ℕ × S) (read : List ℕ → S → Entry × S) (allowance : ℕ) where
  abbrev pub noted_p : Entry → S → RunP E S → RunP E S
  noted_p e s t = record { entries = push e t.entries; probes = t.probes; spent = t.spent; state = s }

  abbrev pub answered_p : List ℕ → ℕ → (RunP E S → RunP E S) → RunP E S → RunP E S
  answered_p p zero several t = t
  answered_p p (suc zero) several t = let r = read p t.state in noted_p r.0 r.1 t
  answered_p p (suc (suc n)) several t = several t

  abbrev pub probed_p : List ℕ → (ℕ → RunP E S → RunP E S) → RunP E S → RunP E S
  probed_p p several t =
      if leb allowance t.probes then stopped_p t else
      (let r = probe p t.state in answered_p p r.0 (several r.0) (counted_p r.1 t))

  unfoldable pub walk_p : ℕ → List ℕ → RunP E S → RunP E S
  walk_p zero p = probed_p p (λ n t. noted_p (many p n) t.state t)
  walk_p (suc u) p = probed_p p (λ n t. row_p ten (λ d. walk_p u (p ++ d ∷ [])) t)

abbrev pub begun : {E S : Type 0} → E → S → RunP E S
begun e s = record { entries = e; probes = 0; spent = false; state = s }

abbrev pub snoc : Entry → List Entry → List Entry
snoc e es = es ++ e ∷ []

-- ---- the walk of the definitions

abbrev pub held_run : {E : Type 0} → (List Entry → E) → Walked → RunP E Plain
held_run hold w = record { entries = hold w.entries; probes = w.probes; spent = w.spent; state = w.segment }

-- if `push` is what adding an entry is to what holds them
module _ (E : Type 0) (push : Entry → E → E) (hold : List Entry → E) (push_is : (e : Entry) (es : List Entry) → hold (es ++ e ∷ []) ≡ push e (hold es))
    (k : Clock) (allowance : ℕ) where
  row-held : (ds : List ℕ) (f : ℕ → Walked → Walked) (g : ℕ → RunP E Plain → RunP E Plain) → ((d : ℕ) (w : Walked) → held_run hold (f d w) ≡ g d (held_run hold w))
      → (w : Walked) → held_run hold (row ds f w) ≡ row_p ds g (held_run hold w)
  row-held [] f g h w = refl
  row-held (d ∷ ds) f g h w = row-held ds f g h (f d w) ∙ ap (row_p ds g) (h d w)

  answered-held : (p : List ℕ) (n : ℕ) (f : Walked → Walked) (g : RunP E Plain → RunP E Plain) → ((w : Walked) → held_run hold (f w) ≡ g (held_run hold w))
      → (w : Walked) → held_run hold (answered k p n f w) ≡ answered_p E Plain push (probe k) (read k) allowance p n g (held_run hold w)
  answered-held p zero f g h w = refl
  answered-held p (suc zero) f g h w =
      ap (λ es. record { entries = es; probes = w.probes; spent = w.spent; state = (read k p w.segment).1 }) (push_is (read k p w.segment).0 w.entries)
  answered-held p (suc (suc n)) f g h w = h w

  probed-held : (p : List ℕ) (f : ℕ → Walked → Walked) (g : ℕ → RunP E Plain → RunP E Plain) → ((n : ℕ) (w : Walked) → held_run hold (f n w) ≡ g n (held_run hold w))
      → (w : Walked) → held_run hold (probed k allowance p f w) ≡ probed_p E Plain push (probe k) (read k) allowance p g (held_run hold w)
  probed-held p f g h w = go (leb allowance w.probes)
    where
      s : Plain
      s = (probe k p w.segment).1

      n : ℕ
      n = (probe k p w.segment).0

      v : Walked
      v = record { entries = w.entries; probes = w.probes + 1; spent = false; segment = s }

      go : (b : Bool) → held_run hold (if b then record { entries = w.entries; probes = w.probes; spent = true; segment = w.segment } else answered k p n (f n) v)
          ≡ (if b then stopped_p (held_run hold w) else answered_p E Plain push (probe k) (read k) allowance p n (g n) (held_run hold v))
      go true = refl
      go false = answered-held p n (f n) (g n) (h n) v

  pub walk-held : (u : ℕ) (p : List ℕ) (w : Walked) → held_run hold (walk k allowance u p w) ≡ walk_p E Plain push (probe k) (read k) allowance u p (held_run hold w)
  unfolding walk walk_p
  walk-held zero p w =
      probed-held p (λ n v. noted (many p n) v.segment v) (λ n v. noted_p E Plain push (probe k) (read k) allowance (many p n) v.state v) (λ n v. ap (λ es. record { entries = es; probes = v.probes; spent = v.spent; state = v.segment }) (push_is (many p n) v.entries)) w
  walk-held (suc u) p w =
      probed-held p (λ n. row ten (λ d. walk k allowance u (p ++ d ∷ []))) (λ n. row_p ten (λ d. walk_p E Plain push (probe k) (read k) allowance u (p ++ d ∷ []))) (λ n v. row-held ten (λ d. walk k allowance u (p ++ d ∷ [])) (λ d. walk_p E Plain push (probe k) (read k) allowance u (p ++ d ∷ [])) (λ d x. walk-held u (p ++ d ∷ []) x) v) w

  -- from the mask with no digit, nothing held yet
  pub whole-held : (s : Plain) → held_run hold (whole_walk k allowance s) ≡ walk_p E Plain push (probe k) (read k) allowance 8 [] (begun (hold []) s)
  unfolding whole_walk
  whole-held s = walk-held 8 [] (record { entries = []; probes = 0; spent = false; segment = s })

-- ---- a list that takes no more than n

abbrev pub push_up_to : {A : Type 0} → ℕ → A → List A → List A
push_up_to n x xs = if ltb (length xs) n then xs ++ x ∷ [] else xs

pub push_up_to_lem : {A B : Type 0} (f : A → B) (n : ℕ) (x : A) (xs : List A) → take n (map f (xs ++ x ∷ [])) ≡ push_up_to n (f x) (take n (map f xs))
push_up_to_lem f zero x xs = refl
push_up_to_lem f (suc n) x [] = rw (lt-ltb 0 (suc n) (omega arith)) (ap (λ r. f x ∷ r) (take-nil n))
push_up_to_lem {B} f (suc n) x (y ∷ xs) =
    ap (λ r. f y ∷ r) (push_up_to_lem f n x xs) ∙ sym (rw (leb-suc-suc (suc (length (take n (map f xs)))) n) (go (ltb (length (take n (map f xs))) n)))
  where
    go : (b : Bool) → ◌≡◌ {A = List B} (if b then f y ∷ (take n (map f xs) ++ f x ∷ []) else f y ∷ take n (map f xs)) (f y ∷ (if b then take n (map f xs) ++ f x ∷ [] else take n (map f xs)))
    go true = refl
    go false = refl

-- so entries held in a list of at most n places are the first n of the walk's, and all of them where they are no more
pub held_all : {A B : Type 0} (f : A → B) (n : ℕ) (xs : List A) → length xs ≤ n → take n (map f xs) ≡ map f xs
held_all f n xs h = take_all n (map f xs) (omega (arith, length-map xs f))
