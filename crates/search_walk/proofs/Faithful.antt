-- The walk over a segment with a state gives what the model gives, if probes and readings are as `Faithful` says.
use mathlib.Core.Path.{◌≡◌, refl, sym, ap, ap₂, ◌∙◌, fun_ext}
use mathlib.Core.Bool.{Bool, true, false, ◌||◌, not, false≢true, or-true}
use mathlib.Core.List.{List, [], ◌∷◌, ◌++◌, append-nil}
use Prim.Native.Nat.{ℕ, zero, suc, ◌+◌, ◌≤◌, ◌<◌}
use native.Mathlib.Omega.{arith}
use lib.Dec.{eqb}
use lib.Seq.{append_snoc}
use lib.ListN.{length, length-append}
use borrow.Author.Tests.{ne_eqb}
use Rattle.meter.specs.PlainMeter.{PlainMeter}
use Rattle.search_walk.specs.Walk.{Entry, many, ten}
use Rattle.search_walk.specs.Entries.{lone_entry, having}
use Rattle.search_walk.proofs.Model.{Digits, Prefix, ten_digits, prefix_longer, Run, on, join, and_then, model_row, heard, paid, model_walk}
use Rattle.search_walk.proofs.Sums.{total}
use Rattle.search_walk.proofs.Bound.{range, ten_range, split}

-- the model's walk, with the segment: entries, what is left of the allowance, spent or not, the segment
pub record RunS (S : Type 0) : Type 0 where
  pub entries : List Entry
  pub left : ℕ
  pub spent : Bool
  pub state : S

module _ {S : Type 0} where
  abbrev pub obs : RunS S → Run
  obs r = record { entries = r.entries; left = r.left; spent = r.spent }

  abbrev pub on_s : List Entry → ℕ → S → RunS S
  on_s es a s = record { entries = es; left = a; spent = false; state = s }

  abbrev pub stopped_s : S → RunS S
  stopped_s s = record { entries = []; left = 0; spent = true; state = s }

  abbrev pub join_s : RunS S → RunS S → RunS S
  join_s r t = record { entries = r.entries ++ t.entries; left = t.left; spent = t.spent; state = t.state }

  abbrev pub after_s : RunS S → (ℕ → S → RunS S) → RunS S
  after_s r k = elim r.spent [ true ↦ r | false ↦ join_s r (k r.left r.state) ]

  abbrev pub row_s : List ℕ → (ℕ → ℕ → S → RunS S) → ℕ → S → RunS S
  row_s [] f a s = on_s [] a s
  row_s (d ∷ ds) f a s = after_s (f d a s) (row_s ds f)

  abbrev pub paid_s : (ℕ → S → RunS S) → ℕ → S → RunS S
  paid_s k zero s = stopped_s s
  paid_s k (suc a) s = k a s

module _ (S : Type 0) (probe : List ℕ → S → ℕ × S) (read : List ℕ → S → Entry × S) where
  -- after a probe that n answered
  abbrev pub heard_s : List ℕ → ℕ → (ℕ → S → RunS S) → ℕ → S → RunS S
  heard_s p zero more a s = on_s [] a s
  heard_s p (suc zero) more a s = let r = read p s in on_s (r.0 ∷ []) a r.1
  heard_s p (suc (suc n)) more a s = more a s

  unfoldable pub walk_s : ℕ → List ℕ → ℕ → S → RunS S
  walk_s zero p = paid_s (λ a s. let r = probe p s in heard_s p r.0 (on_s (many p r.0 ∷ [])) a r.1)
  walk_s (suc u) p = paid_s (λ a s. let r = probe p s in heard_s p r.0 (row_s ten (λ d. walk_s u (p ++ d ∷ []))) a r.1)

-- p and q part at some digit
abbrev pub apart : List ℕ → List ℕ → Bool
apart [] q = false
apart (x ∷ p) [] = false
apart (x ∷ p) (y ∷ q) = not (eqb x y) || apart p q

-- whoever has a prefix apart from p is the same in both
abbrev pub Agree : List ℕ → List PlainMeter → List PlainMeter → Type 0
Agree p ms ns = (q : List ℕ) → apart p q ≡ true → having ms q ≡ having ns q

-- what a segment's probe and reading have to be
pub record Faithful (S : Type 0) (probe : List ℕ → S → ℕ × S) (read : List ℕ → S → Entry × S) : Type 1 where
  pub Inv : S → Type 0
  pub seen : S → List PlainMeter
  pub probe_inv : (p : List ℕ) → Prefix p → (s : S) → Inv s → Inv (probe p s).1
  pub probe_count : (p : List ℕ) → Prefix p → (s : S) → Inv s → (probe p s).0 ≡ length (having (seen s) p)
  pub probe_seen : (p : List ℕ) → Prefix p → (s : S) → Inv s → seen (probe p s).1 ≡ seen s
  pub read_inv : (p : List ℕ) → Prefix p → (s : S) (m : PlainMeter) → Inv s → having (seen s) p ≡ m ∷ [] → Inv (read p (probe p s).1).1
  pub read_entry : (p : List ℕ) → Prefix p → (s : S) (m : PlainMeter) → Inv s → having (seen s) p ≡ m ∷ [] → (read p (probe p s).1).0 ≡ lone_entry p m
  pub read_seen : (p : List ℕ) → Prefix p → (s : S) (m : PlainMeter) → Inv s → having (seen s) p ≡ m ∷ [] → Agree p (seen s) (seen (read p (probe p s).1).1)

-- ---- prefixes that part

apart_longer : (p q r : List ℕ) → apart p r ≡ true → apart (p ++ q) r ≡ true
apart_longer [] q r h = absurd (false≢true h)
apart_longer (x ∷ p) q [] h = absurd (false≢true h)
apart_longer (x ∷ p) q (y ∷ r) h = go (not (eqb x y)) h (apart_longer p q r)
  where
    go : (b : Bool) → b || apart p r ≡ true → (apart p r ≡ true → apart (p ++ q) r ≡ true) → b || apart (p ++ q) r ≡ true
    go true k f = refl
    go false k f = f k

apart_row : (p : List ℕ) (d e : ℕ) (q : List ℕ) → d < e → apart (p ++ d ∷ []) (p ++ e ∷ [] ++ q) ≡ true
apart_row [] d e q h = rw (ne_eqb d e (λ x. omega arith))
apart_row (x ∷ p) d e q h = rw (apart_row p d e q h) (or-true (not (eqb x x)))

-- ---- the walk from p on asks only for prefixes that go on from p

walk_cong : (u : ℕ) (ms ns : List PlainMeter) (p : List ℕ) → ((q : List ℕ) → having ms (p ++ q) ≡ having ns (p ++ q)) → (a : ℕ) → model_walk u ms p a ≡ model_walk u ns p a
unfolding model_walk
walk_cong zero ms ns p h a = ap (λ hs. paid (heard p hs (on (many p (length hs) ∷ []))) a) (rw append-nil at (h []))
walk_cong (suc u) ms ns p h a =
    ap₂ (λ hs f. paid (heard p hs (model_row ten f)) a) (rw append-nil at (h []))
    (fun_ext λ d. fun_ext (walk_cong u ms ns (p ++ d ∷ []) (λ q. simp append_snoc (h (d ∷ q)))))

module _ (S : Type 0) (probe : List ℕ → S → ℕ × S) (read : List ℕ → S → Entry × S) (faithful : Faithful S probe read) where
  open faithful use {Inv, seen, probe_inv, probe_count, probe_seen, read_inv, read_entry, read_seen}

  abbrev pub Same : List ℕ → List PlainMeter → Run → RunS S → Type 0
  Same p ms run r = (obs r ≡ run) × Inv r.state × Agree p ms (seen r.state)

  after_same : (p : List ℕ) (ms : List PlainMeter) (r : RunS S) (k : ℕ → S → RunS S) (j : ℕ → Run) → Inv r.state → Agree p ms (seen r.state)
      → ((a : ℕ) → Same p ms (j a) (k a r.state)) → Same p ms (and_then (obs r) j) (after_s r k)
  after_same p ms r k j inv agree h = go r.spent
    where
      go : (b : Bool) → let t : RunS S = record { entries = r.entries; left = r.left; spent = b; state = r.state } in Same p ms (and_then (obs t) j) (after_s t k)
      go true = (refl, inv, agree)
      go false = let n = h r.left in (ap (join (on r.entries 0)) n.0, n.1, n.2)

  row_same : (p : List ℕ) (ms : List PlainMeter) (f : ℕ → ℕ → S → RunS S) (g : ℕ → ℕ → Run)
      → ((d a : ℕ) (s : S) → d < 10 → Inv s → ((q : List ℕ) → having (seen s) (p ++ d ∷ [] ++ q) ≡ having ms (p ++ d ∷ [] ++ q)) → Same (p ++ d ∷ []) (seen s) (g d a) (f d a s))
      → (i n a : ℕ) (s : S) → i + n ≤ 10 → Inv s → Agree p ms (seen s) → ((d : ℕ) (q : List ℕ) → i ≤ d → having (seen s) (p ++ d ∷ [] ++ q) ≡ having ms (p ++ d ∷ [] ++ q))
      → Same p ms (model_row (range i n) g a) (row_s (range i n) f a s)
  row_same p ms f g step i zero a s le inv agree fresh = (refl, inv, agree)
  row_same p ms f g step i (suc n) a s le inv agree fresh =
      let r : Same (p ++ i ∷ []) (seen s) (g i a) (f i a s) = step i a s (omega arith) inv (λ q. fresh i q (omega arith)) in
      rw (← r.0) (after_same p ms (f i a s) (row_s (range (suc i) n) f) (model_row (range (suc i) n) g) r.1
      (λ q h. agree q h ∙ r.2 q (apart_longer p (i ∷ []) q h))
      (λ b. row_same p ms f g step (suc i) n b (f i a s).state (omega arith) r.1 (λ q h. agree q h ∙ r.2 q (apart_longer p (i ∷ []) q h))
      (λ d q h. sym (r.2 (p ++ d ∷ [] ++ q) (apart_row p i d q h)) ∙ fresh d q (omega arith))))

  probe_agree : (p : List ℕ) → Prefix p → (s : S) → Inv s → Agree p (seen s) (seen (probe p s).1)
  probe_agree p w s inv q h = ap (λ v. having v q) (sym (probe_seen p w s inv))

  heard_same : (p : List ℕ) → Prefix p → (s : S) → Inv s → (hs : List PlainMeter) → having (seen s) p ≡ hs → (more : ℕ → S → RunS S) (j : ℕ → Run)
      → ((a : ℕ) → Same p (seen s) (j a) (more a (probe p s).1)) → (a : ℕ)
      → Same p (seen s) (heard p hs j a) (heard_s S probe read p (length hs) more a (probe p s).1)
  heard_same p w s inv [] e more j h a = (refl, probe_inv p w s inv, probe_agree p w s inv)
  heard_same p w s inv (m ∷ []) e more j h a = (ap (λ x. on (x ∷ []) a) (read_entry p w s m inv e), read_inv p w s m inv e, read_seen p w s m inv e)
  heard_same p w s inv (m ∷ n ∷ hs) e more j h a = h a

  pub walk_same : (u : ℕ) (p : List ℕ) → Prefix p → length p + u ≡ 8 → (a : ℕ) (s : S) → Inv s → Same p (seen s) (model_walk u (seen s) p a) (walk_s S probe read u p a s)
  unfolding model_walk walk_s
  walk_same zero p w k zero s inv = (refl, inv, λ q h. refl)
  walk_same zero p w k (suc a) s inv =
      rw (probe_count p w s inv) (heard_same p w s inv (having (seen s) p) refl _ _ (λ b. (refl, probe_inv p w s inv, probe_agree p w s inv)) a)
  walk_same (suc u) p w k zero s inv = (refl, inv, λ q h. refl)
  walk_same (suc u) p w k (suc a) s inv =
      rw (probe_count p w s inv) (heard_same p w s inv (having (seen s) p) refl _ _ (λ b.
      rw ten_range (row_same p (seen s) (λ d. walk_s S probe read u (p ++ d ∷ [])) (λ d. model_walk u (seen s) (p ++ d ∷ []))
      (λ d c t l i fresh.
      let r = walk_same u (p ++ d ∷ []) (prefix_longer p d w (omega arith) l) (omega (arith, length-append p (d ∷ []))) c t i in (r.0 ∙ walk_cong u (seen t) (seen s) (p ++ d ∷ []) fresh c, r.1, r.2))
      0 10 b (probe p s).1 (omega arith) (probe_inv p w s inv) (probe_agree p w s inv) (λ d q h. ap (λ v. having v (p ++ d ∷ [] ++ q)) (probe_seen p w s inv)))) a)

-- ---- the entries fit into as many places as there are meters: in every case, also where fewer answer than have the
-- prefix

module _ (S : Type 0) (probe : List ℕ → S → ℕ × S) (read : List ℕ → S → Entry × S) (Inv : S → Type 0) (ms : List PlainMeter)
    (probe_inv : (p : List ℕ) → Prefix p → (s : S) → Inv s → Inv (probe p s).1) (read_inv : (p : List ℕ) → Prefix p → (s : S) → Inv s → Inv (read p s).1)
    (probe_le : (p : List ℕ) → Prefix p → (s : S) → Inv s → (probe p s).0 ≤ length (having ms p)) where
  abbrev Fits : ℕ → RunS S → Type 0
  Fits n r = (length r.entries ≤ n) × Inv r.state

  after_fits : (n k : ℕ) (r : RunS S) (f : ℕ → S → RunS S) → Fits n r → ((a : ℕ) (s : S) → Inv s → Fits k (f a s)) → Fits (n + k) (after_s r f)
  after_fits n k r f h g = go r.spent
    where
      go : (b : Bool) → Fits (n + k) (after_s (record { entries = r.entries; left = r.left; spent = b; state = r.state }) f)
      go true = (omega arith, h.1)
      go false = let m = g r.left r.state h.1 in (omega (arith, length-append r.entries (f r.left r.state).entries, m.0), m.1)

  row_fits : (ds : List ℕ) → Digits ds → (f : ℕ → ℕ → S → RunS S) (n : ℕ → ℕ) → ((d a : ℕ) (s : S) → d < 10 → Inv s → Fits (n d) (f d a s))
      → (a : ℕ) (s : S) → Inv s → Fits (total ds n) (row_s ds f a s)
  unfolding total
  row_fits [] g f n h a s inv = (omega arith, inv)
  row_fits (d ∷ ds) g f n h a s inv = after_fits (n d) (total ds n) (f d a s) (row_s ds f) (h d a s g.0 inv) (row_fits ds g.1 f n h)

  heard-fits : (p : List ℕ) → Prefix p → (c n : ℕ) → c ≤ n → (more : ℕ → S → RunS S) → (2 ≤ n → (a : ℕ) (s : S) → Inv s → Fits n (more a s))
      → (a : ℕ) (s : S) → Inv s → Fits n (heard_s S probe read p c more a s)
  heard-fits p w zero n h more g a s inv = (omega arith, inv)
  heard-fits p w (suc zero) n h more g a s inv = (omega arith, read_inv p w s inv)
  heard-fits p w (suc (suc c)) n h more g a s inv = g (omega arith) a s inv

  pub walk-fits : (u : ℕ) (p : List ℕ) → Prefix p → length p + u ≡ 8 → (a : ℕ) (s : S) → Inv s → Fits (length (having ms p)) (walk_s S probe read u p a s)
  unfolding walk_s
  walk-fits zero p w k zero s inv = (omega arith, inv)
  walk-fits zero p w k (suc a) s inv =
      heard-fits p w (probe p s).0 (length (having ms p)) (probe_le p w s inv) _ (λ two b t i. (omega arith, i)) a (probe p s).1 (probe_inv p w s inv)
  walk-fits (suc u) p w k zero s inv = (omega arith, inv)
  walk-fits (suc u) p w k (suc a) s inv =
      heard-fits p w (probe p s).0 (length (having ms p)) (probe_le p w s inv) _
      (λ two b t i.
      let r = row_fits ten ten_digits (λ d. walk_s S probe read u (p ++ d ∷ [])) (λ d. length (having ms (p ++ d ∷ [])))
      (λ d c v l j. walk-fits u (p ++ d ∷ []) (prefix_longer p d w (omega arith) l) (omega (arith, length-append p (d ∷ []))) c v j) b t i in
      (omega (arith, r.0, split ms p), r.1))
      a (probe p s).1 (probe_inv p w s inv)
