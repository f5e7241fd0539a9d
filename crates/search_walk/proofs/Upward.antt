-- Probes counted upward, as the definitions do, or an allowance that falls, as the model does: the same walk.
use Rattle.std.specs.Prelude.{if◌then◌else◌}
use mathlib.Core.Path.{◌≡◌, refl, sym, ap, ap₂, ◌∙◌}
use mathlib.Core.Bool.{Bool, true, false, false≢true}
use mathlib.Core.List.{List, [], ◌∷◌, ◌++◌, append-nil, append_assoc}
use Prim.Native.Nat.{ℕ, zero, suc, ◌+◌, ◌-◌, ◌≤◌}
use native.Mathlib.Omega.{arith}
use native.Mathlib.Nat.{sub-zero}
use lib.Dec.{leb}
use borrow.Author.Tests.{leb-true, leb-false}
use Rattle.time_clock.specs.declared.Clock.{Clock}
use Rattle.segment.specs.Plain.{Plain}
use Rattle.search_walk.specs.Walk.{Entry, many, ten, probe, read, Walked, whole_walk}
use Rattle.search_walk.proofs.Faithful.{RunS, on_s, stopped_s, after_s, row_s, paid_s, heard_s, walk_s}
use Rattle.search_walk.proofs.Program.{RunP, stopped_p, counted_p, row_p, noted_p, answered_p, probed_p, walk_p, begun, snoc, whole-held}

-- ---- what is left of the allowance: never more than it was, and nothing where the walk was stopped

module _ (S : Type 0) (probe : List ℕ → S → ℕ × S) (read : List ℕ → S → Entry × S) where
  unfoldable pub Counted : ℕ → RunS S → Type 0
  Counted a r = (r.left ≤ a) × (r.spent ≡ true → r.left ≡ 0)

  after_counted : (a : ℕ) (r : RunS S) (f : ℕ → S → RunS S) → Counted a r → ((b : ℕ) (s : S) → Counted b (f b s)) → Counted a (after_s r f)
  unfolding Counted
  after_counted a r f h g = go r.spent h.1
    where
      go : (b : Bool) → (b ≡ true → r.left ≡ 0) → let t : RunS S = record { entries = r.entries; left = r.left; spent = b; state = r.state } in Counted a (after_s t f)
      go true e = (h.0, e)
      go false e = let n = g r.left r.state in (omega (arith, n.0, h.0), n.1)

  row-counted : (ds : List ℕ) (f : ℕ → ℕ → S → RunS S) → ((d a : ℕ) (s : S) → Counted a (f d a s)) → (a : ℕ) (s : S) → Counted a (row_s ds f a s)
  unfolding Counted
  row-counted [] f g a s = (omega arith, λ e. absurd (false≢true e))
  row-counted (d ∷ ds) f g a s = after_counted a (f d a s) (row_s ds f) (g d a s) (row-counted ds f g)

  heard-counted : (p : List ℕ) (n : ℕ) (more : ℕ → S → RunS S) → ((a : ℕ) (s : S) → Counted a (more a s)) → (a : ℕ) (s : S) → Counted a (heard_s S probe read p n more a s)
  unfolding Counted
  heard-counted p zero more g a s = (omega arith, λ e. absurd (false≢true e))
  heard-counted p (suc zero) more g a s = (omega arith, λ e. absurd (false≢true e))
  heard-counted p (suc (suc n)) more g a s = g a s

  pub walk-counted : (u : ℕ) (p : List ℕ) (a : ℕ) (s : S) → Counted a (walk_s S probe read u p a s)
  unfolding Counted walk_s
  walk-counted zero p zero s = (omega arith, λ e. refl)
  walk-counted zero p (suc a) s =
      let r = heard-counted p (probe p s).0 (on_s (many p (probe p s).0 ∷ [])) (λ b t. (omega arith, λ e. absurd (false≢true e))) a (probe p s).1 in (omega (arith, r.0), r.1)
  walk-counted (suc u) p zero s = (omega arith, λ e. refl)
  walk-counted (suc u) p (suc a) s =
      let r = heard-counted p (probe p s).0 (row_s ten (λ d. walk_s S probe read u (p ++ d ∷ []))) (row-counted ten (λ d. walk_s S probe read u (p ++ d ∷ [])) (λ d. walk-counted u (p ++ d ∷ []))) a (probe p s).1 in (omega (arith, r.0), r.1)

  -- ---- behind the entries so far, with the probes that the allowance lost

  module _ (a : ℕ) where
    abbrev pub behind : List Entry → RunS S → RunP (List Entry) S
    behind es r = record { entries = es ++ r.entries; probes = a - r.left; spent = r.spent; state = r.state }

    abbrev Step : Type 0
    Step = RunP (List Entry) S → RunP (List Entry) S

    abbrev Up : Step → (ℕ → S → RunS S) → Type 0
    Up f g = (t : RunP (List Entry) S) → t.probes ≤ a → f t ≡ behind t.entries (g (a - t.probes) t.state)

    -- a walk that was stopped is stopped again
    row-stop : (ds : List ℕ) (f : ℕ → Step) (g : ℕ → ℕ → S → RunS S) → ((d : ℕ) → Up (f d) (g d)) → ((d : ℕ) (s : S) → g d 0 s ≡ stopped_s s)
        → (es : List Entry) (n : ℕ) (s : S) → n ≡ a → let t : RunP (List Entry) S = record { entries = es; probes = n; spent = true; state = s } in row_p ds f t ≡ t
    row-stop [] f g h z es n s e = refl
    row-stop (d ∷ ds) f g h z es n s e =
        let t : RunP (List Entry) S = record { entries = es; probes = n; spent = true; state = s } in
        ap (row_p ds f)
        (h d t (omega arith) ∙ ap (λ b. behind es (g d b s)) (omega arith) ∙ ap (behind es) (z d s)
        ∙ ap₂ (λ xs m. record { entries = xs; probes = m; spent = true; state = s }) (append-nil es) (omega arith))
        ∙ row-stop ds f g h z es n s e

    row_up : (ds : List ℕ) (f : ℕ → Step) (g : ℕ → ℕ → S → RunS S) → ((d : ℕ) → Up (f d) (g d)) → ((d : ℕ) (s : S) → g d 0 s ≡ stopped_s s) → ((d b : ℕ) (s : S) → Counted b (g d b s))
        → (es : List Entry) (n : ℕ) (s : S) → n ≤ a
        → let t : RunP (List Entry) S = record { entries = es; probes = n; spent = false; state = s } in row_p ds f t ≡ behind es (row_s ds g (a - n) s)
    unfolding Counted
    row_up [] f g h z c es n s le = ap₂ (λ xs m. record { entries = xs; probes = m; spent = false; state = s }) (sym (append-nil es)) (omega arith)
    row_up (d ∷ ds) f g h z c es n s le =
        let t : RunP (List Entry) S = record { entries = es; probes = n; spent = false; state = s } in
        let r = g d (a - n) s in
        ap (row_p ds f) (h d t le)
        ∙ go r.entries r.left r.spent r.state (omega (arith, (c d (a - n) s).0)) (c d (a - n) s).1 (row_up ds f g h z c)
      where
        go : (fs : List Entry) (l : ℕ) (b : Bool) (u : S) → l ≤ a → (b ≡ true → l ≡ 0)
            → ((es : List Entry) (n : ℕ) (s : S) → n ≤ a → let t : RunP (List Entry) S = record { entries = es; probes = n; spent = false; state = s } in row_p ds f t ≡ behind es (row_s ds g (a - n) s))
            → let r : RunS S = record { entries = fs; left = l; spent = b; state = u } in row_p ds f (behind es r) ≡ behind es (after_s r (row_s ds g))
        go fs l true u k e ih = row-stop ds f g h z (es ++ fs) (a - l) u (omega (arith, e refl))
        go fs l false u k e ih =
            ih (es ++ fs) (a - l) u (omega arith) ∙ ap (λ b. behind (es ++ fs) (row_s ds g b u)) (omega arith)
            ∙ ap (λ xs. record { entries = xs; probes = a - (row_s ds g l u).left; spent = (row_s ds g l u).spent; state = (row_s ds g l u).state }) (append_assoc es fs (row_s ds g l u).entries)

    answered-up : (p : List ℕ) (n : ℕ) (f : Step) (g : ℕ → S → RunS S) (es : List Entry) (m b : ℕ) (s : S) → m + 1 + b ≡ a
        → (let t : RunP (List Entry) S = record { entries = es; probes = m + 1; spent = false; state = s } in f t ≡ behind es (g b s))
        → let t : RunP (List Entry) S = record { entries = es; probes = m + 1; spent = false; state = s } in
        answered_p (List Entry) S snoc probe read a p n f t ≡ behind es (heard_s S probe read p n g b s)
    answered-up p zero f g es m b s e h = ap₂ (λ xs m. record { entries = xs; probes = m; spent = false; state = s }) (sym (append-nil es)) (omega arith)
    answered-up p (suc zero) f g es m b s e h = ap (λ x. record { entries = es ++ (read p s).0 ∷ []; probes = x; spent = false; state = (read p s).1 }) (omega arith)
    answered-up p (suc (suc n)) f g es m b s e h = h

    probed-up : (p : List ℕ) (f : ℕ → Step) (g : ℕ → ℕ → S → RunS S)
        → ((n : ℕ) (es : List Entry) (m : ℕ) (s : S) → m ≤ a → let t : RunP (List Entry) S = record { entries = es; probes = m; spent = false; state = s } in f n t ≡ behind es (g n (a - m) s))
        → Up (probed_p (List Entry) S snoc probe read a p f) (paid_s (λ b s. let r = probe p s in heard_s S probe read p r.0 (g r.0) b r.1))
    probed-up p f g h t le = go (leb a t.probes) refl
      where
        n : ℕ
        n = (probe p t.state).0

        s : S
        s = (probe p t.state).1

        k : ℕ → S → RunS S
        k b u = let r = probe p u in heard_s S probe read p r.0 (g r.0) b r.1

        go : (b : Bool) → leb a t.probes ≡ b
            → (if b then stopped_p t else answered_p (List Entry) S snoc probe read a p n (f n) (counted_p s t)) ≡ behind t.entries (paid_s k (a - t.probes) t.state)
        go true e =
            let l = leb-true a t.probes e in
            let none_left : a - t.probes ≡ 0 = omega arith in
            sym (ap (λ b. behind t.entries (paid_s k b t.state)) none_left
            ∙ ap₂ (λ xs m. record { entries = xs; probes = m; spent = true; state = t.state }) (append-nil t.entries) (omega arith))
        go false e =
            let l = leb-false a t.probes e in
            let one_less : a - t.probes ≡ suc (a - (t.probes + 1)) = omega arith in
            answered-up p n (f n) (g n) t.entries t.probes (a - (t.probes + 1)) s (omega arith) (h n t.entries (t.probes + 1) s (omega arith))
            ∙ sym (ap (λ b. behind t.entries (paid_s k b t.state)) one_less)

    pub walk_up : (u : ℕ) (p : List ℕ) → Up (walk_p (List Entry) S snoc probe read a u p) (walk_s S probe read u p)
    unfolding walk_p walk_s
    walk_up zero p = probed-up p (λ n t. noted_p (List Entry) S snoc probe read a (many p n) t.state t) (λ n. on_s (many p n ∷ []))
        (λ n es m s l. ap (λ x. record { entries = es ++ many p n ∷ []; probes = x; spent = false; state = s }) (omega arith))
    walk_up (suc u) p = probed-up p (λ n. row_p ten (λ d. walk_p (List Entry) S snoc probe read a u (p ++ d ∷ []))) (λ n. row_s ten (λ d. walk_s S probe read u (p ++ d ∷ [])))
        (λ n es m s l. row_up ten (λ d. walk_p (List Entry) S snoc probe read a u (p ++ d ∷ [])) (λ d. walk_s S probe read u (p ++ d ∷ []))
        (λ d. walk_up u (p ++ d ∷ [])) (λ d s. stop u (p ++ d ∷ []) s) (λ d. walk-counted u (p ++ d ∷ [])) es m s l)
      where
        stop : (u : ℕ) (p : List ℕ) (s : S) → walk_s S probe read u p 0 s ≡ stopped_s s
        stop zero p s = refl
        stop (suc u) p s = refl

-- ---- the whole walk

unfoldable pub walk_down : Clock → ℕ → Plain → RunS Plain
walk_down k a s = walk_s Plain (probe k) (read k) 8 [] a s

abbrev pub walked_by : ℕ → RunS Plain → Walked
walked_by a r = record { entries = r.entries; probes = a - r.left; spent = r.spent; segment = r.state }

pub whole-down : (k : Clock) (a : ℕ) (s : Plain) → whole_walk k a s ≡ walked_by a (walk_down k a s)
unfolding walk_down
whole-down k a s =
    ap (λ (t : RunP (List Entry) Plain). record { entries = t.entries; probes = t.probes; spent = t.spent; segment = t.state })
    (whole-held (List Entry) snoc (λ es. es) (λ e es. refl) k a s
    ∙ walk_up Plain (probe k) (read k) a 8 [] (begun [] s) (omega arith)
    ∙ ap (λ b. behind Plain (probe k) (read k) a [] (walk_s Plain (probe k) (read k) 8 [] b s)) (sub-zero a))
