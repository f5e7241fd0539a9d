-- What every probe and every reading keeps, the walk keeps.
use mathlib.Core.Bool.{Bool, true, false}
use mathlib.Core.List.{List, [], ◌∷◌, ◌++◌}
use Prim.Native.Nat.{ℕ, zero, suc}
use Rattle.search_walk.specs.Walk.{Entry, ten}
use Rattle.search_walk.proofs.Faithful.{RunS, after_s, row_s, heard_s, walk_s}

module _ (S : Type 0) (probe : List ℕ → S → ℕ × S) (read : List ℕ → S → Entry × S) (Inv : S → Type 0)
    (probe_inv : (p : List ℕ) (s : S) → Inv s → Inv (probe p s).1) (read_inv : (p : List ℕ) (s : S) → Inv s → Inv (read p s).1) where
  after_keeps : (r : RunS S) (f : ℕ → S → RunS S) → Inv r.state → ((a : ℕ) (s : S) → Inv s → Inv (f a s).state) → Inv (after_s r f).state
  after_keeps r f h g = go r.spent
    where
      go : (b : Bool) → Inv (after_s (record { entries = r.entries; left = r.left; spent = b; state = r.state }) f).state
      go true = h
      go false = g r.left r.state h

  row_keeps : (ds : List ℕ) (f : ℕ → ℕ → S → RunS S) → ((d a : ℕ) (s : S) → Inv s → Inv (f d a s).state) → (a : ℕ) (s : S) → Inv s → Inv (row_s ds f a s).state
  row_keeps [] f g a s i = i
  row_keeps (d ∷ ds) f g a s i = after_keeps (f d a s) (row_s ds f) (g d a s i) (row_keeps ds f g)

  heard_keeps : (p : List ℕ) (n : ℕ) (more : ℕ → S → RunS S) → ((a : ℕ) (s : S) → Inv s → Inv (more a s).state) → (a : ℕ) (s : S) → Inv s → Inv (heard_s S probe read p n more a s).state
  heard_keeps p zero more g a s i = i
  heard_keeps p (suc zero) more g a s i = read_inv p s i
  heard_keeps p (suc (suc n)) more g a s i = g a s i

  pub walk_keeps : (u : ℕ) (p : List ℕ) (a : ℕ) (s : S) → Inv s → Inv (walk_s S probe read u p a s).state
  unfolding walk_s
  walk_keeps zero p zero s i = i
  walk_keeps zero p (suc a) s i = heard_keeps p (probe p s).0 _ (λ b t j. j) a (probe p s).1 (probe_inv p s i)
  walk_keeps (suc u) p zero s i = i
  walk_keeps (suc u) p (suc a) s i =
      heard_keeps p (probe p s).0 _ (row_keeps ten (λ d. walk_s S probe read u (p ++ d ∷ [])) (λ d. walk_keeps u (p ++ d ∷ []))) a (probe p s).1 (probe_inv p s i)
