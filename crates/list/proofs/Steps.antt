-- The steps of a reader, one after another, give the records of the list's definition.
use mathlib.Core.Path.{◌≡◌, refl, sym, ap, ◌∙◌}
use mathlib.Core.List.{List, [], ◌∷◌}
use Prim.Native.Nat.{ℕ, zero, suc}
use Rattle.list.specs.Layout.{Layout, fits, no_fit, read_records}
use Rattle.list.specs.ProgramReading.{Step, one, bad, end, step}
use Rattle.list.proofs.ReadLaws.{more, after_step, step_reads}

-- a step, and what the steps on the bytes behind it give
abbrev step_then : (List ℕ → Layout) → Step → Layout
step_then rest end = fits []
step_then rest bad = no_fit
step_then rest (one r bs) = more r (rest bs)

-- at most n records
abbrev pub steps_of : ℕ → List ℕ → Layout
steps_of zero [] = fits []
steps_of zero (l ∷ bs) = no_fit
steps_of (suc n) bs = step_then (steps_of n) (step bs)

pub steps_are_records : (n : ℕ) (bs : List ℕ) → steps_of n bs ≡ read_records n bs
unfolding read_records
steps_are_records zero [] = refl
steps_are_records zero (l ∷ bs) = refl
steps_are_records (suc n) bs = go (step bs) (steps_are_records n) ∙ sym (step_reads n bs)
  where
    go : (t : Step) → ((x : List ℕ) → steps_of n x ≡ read_records n x) → step_then (steps_of n) t ≡ after_step n t
    go end h = refl
    go bad h = refl
    go (one r x) h = ap (more r) (h x)
