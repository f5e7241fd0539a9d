-- The walk with an allowance is the walk without one, cut off.
use mathlib.Core.Path.{◌≡◌, refl, sym, ap, ap₂, ◌∙◌, fun_ext}
use mathlib.Core.Bool.{Bool, true, false}
use mathlib.Core.List.{List, [], ◌∷◌, ◌++◌, append_assoc}
use Prim.Native.Nat.{ℕ, zero, suc, ◌-◌}
use native.Mathlib.Omega.{arith}
use native.Mathlib.Nat.{suc-sub-suc}
use lib.Dec.{ltb, leb-zero, leb-suc-zero, leb-suc-suc}
use lib.ListN.{length, take}
use Rattle.laws.specs.Words.{each}
use Rattle.meter.specs.PlainMeter.{PlainMeter}
use Rattle.search_walk.specs.Walk.{Entry, many, ten}
use Rattle.search_walk.specs.Entries.{lone_entry, having}
use Rattle.search_walk.proofs.Model.{Run, on, model_stopped, join, and_then, model_row, heard, paid, model_walk}

-- what each probe of the walk without an allowance adds to the entries, probe after probe
abbrev pub traced : List ℕ → List PlainMeter → List Entry → List (List Entry) → List (List Entry)
traced p [] e rest = [] ∷ []
traced p (m ∷ []) e rest = (lone_entry p m ∷ []) ∷ []
traced p (m ∷ n ∷ ms) e rest = e ∷ rest

unfoldable pub trace : ℕ → List PlainMeter → List ℕ → List (List Entry)
trace zero ms p = traced p (having ms p) (many p (length (having ms p)) ∷ []) []
trace (suc u) ms p = traced p (having ms p) [] (each ten (λ d. trace u ms (p ++ d ∷ [])))

-- a list of probes, made as far as the allowance goes
abbrev pub cut : ℕ → List (List Entry) → Run
cut a [] = on [] a
cut zero (e ∷ t) = model_stopped
cut (suc a) (e ∷ t) = join (on e a) (cut a t)

after_join : (e : List Entry) (r : Run) (k : ℕ → Run) → and_then (join (on e 0) r) k ≡ join (on e 0) (and_then r k)
after_join e r k = go r.entries r.left r.spent
  where
    go : (es : List Entry) (l : ℕ) (b : Bool)
        → and_then (join (on e 0) (record { entries = es; left = l; spent = b })) k ≡ join (on e 0) (and_then (record { entries = es; left = l; spent = b }) k)
    go es l true = refl
    go es l false = rw append_assoc

cut_append : (a : ℕ) (s t : List (List Entry)) → and_then (cut a s) (λ b. cut b t) ≡ cut a (s ++ t)
cut_append a [] t = refl
cut_append zero (e ∷ s) t = refl
cut_append (suc a) (e ∷ s) t = after_join e (cut a s) (λ b. cut b t) ∙ ap (join (on e 0)) (cut_append a s t)

row_cut : (ds : List ℕ) (f : ℕ → ℕ → Run) (t : ℕ → List (List Entry)) → ((d a : ℕ) → f d a ≡ cut a (t d)) → (a : ℕ) → model_row ds f a ≡ cut a (each ds t)
row_cut [] f t h a = refl
row_cut (d ∷ ds) f t h a = ap₂ and_then (h d a) (fun_ext (row_cut ds f t h)) ∙ cut_append a (t d) (each ds t)

heard-cut : (p : List ℕ) (hs : List PlainMeter) (e : List Entry) (t : List (List Entry)) (more : ℕ → Run)
    → ((a : ℕ) → more a ≡ cut (suc a) (e ∷ t)) → (a : ℕ) → paid (heard p hs more) a ≡ cut a (traced p hs e t)
heard-cut p [] e t more h zero = refl
heard-cut p [] e t more h (suc a) = refl
heard-cut p (m ∷ []) e t more h zero = refl
heard-cut p (m ∷ []) e t more h (suc a) = refl
heard-cut p (m ∷ n ∷ ms) e t more h zero = refl
heard-cut p (m ∷ n ∷ ms) e t more h (suc a) = h a

pub walk-cut : (u : ℕ) (ms : List PlainMeter) (p : List ℕ) (a : ℕ) → model_walk u ms p a ≡ cut a (trace u ms p)
unfolding model_walk trace
walk-cut zero ms p a = heard-cut p (having ms p) _ _ _ (λ b. refl) a
walk-cut (suc u) ms p a = heard-cut p (having ms p) [] _ _ (λ b. row_cut ten _ (λ d. trace u ms (p ++ d ∷ [])) (λ d c. walk-cut u ms (p ++ d ∷ []) c) b) a

-- ---- what a cut list gives

unfoldable pub all {ℓ} : {A : Type ℓ} → List (List A) → List A
all ts = each ts (λ t. t)

pub cut_entries : (a : ℕ) (t : List (List Entry)) → (cut a t).entries ≡ all (take a t)
unfolding all
cut_entries zero [] = refl
cut_entries (suc a) [] = refl
cut_entries zero (e ∷ t) = refl
cut_entries (suc a) (e ∷ t) = ap (λ es. e ++ es) (cut_entries a t)

pub cut_left : (a : ℕ) (t : List (List Entry)) → (cut a t).left ≡ a - length t
cut_left zero [] = refl
cut_left (suc a) [] = omega arith
cut_left zero (e ∷ t) = omega arith
cut_left (suc a) (e ∷ t) = cut_left a t ∙ sym (suc-sub-suc a (length t))

pub cut_spent : (a : ℕ) (t : List (List Entry)) → (cut a t).spent ≡ ltb a (length t)
cut_spent zero [] = refl
cut_spent (suc a) [] = sym (leb-suc-zero (suc a))
cut_spent zero (e ∷ t) = sym (leb-suc-suc 0 (length t) ∙ leb-zero (length t))
cut_spent (suc a) (e ∷ t) = cut_spent a t ∙ sym (leb-suc-suc (suc a) (length t))
