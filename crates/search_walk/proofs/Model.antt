-- The proof's model: the walk over a list of meters that do not change, with an allowance that falls.
use mathlib.Core.Bool.{Bool, true, false}
use mathlib.Core.List.{List, [], ◌∷◌, ◌++◌}
use Prim.Native.Nat.{ℕ, zero, suc, ◌-◌, ◌≤◌, ◌<◌}
use native.Mathlib.Omega.{arith}
use lib.ListN.{length, length-append}
use Rattle.laws.specs.Words.{Every}
use Rattle.meter.specs.PlainMeter.{PlainMeter}
use Rattle.search_walk.specs.Walk.{Entry, many, ten}
use Rattle.search_walk.specs.Entries.{having, lone_entry}

-- ---- digits and prefixes

-- digits, each below ten
abbrev pub Digits : List ℕ → Type 0
Digits ds = Every (λ d. d < 10) ds

-- a prefix: at most eight digits
pub record Prefix (p : List ℕ) : Type 0 where
  pub fits : length p ≤ 8
  pub digits : Digits p

pub no_digit : Prefix []
no_digit = record { fits = omega arith; digits = tt }

pub ten_digits : Digits ten
unfolding ten
ten_digits = omega arith

pub prefix_longer : (p : List ℕ) (d : ℕ) → Prefix p → length p < 8 → d < 10 → Prefix (p ++ d ∷ [])
prefix_longer p d w l h = record { fits = omega (arith, length-append p (d ∷ [])); digits = go p w.digits }
  where
    go : (p : List ℕ) → Digits p → Digits (p ++ d ∷ [])
    go [] g = (h, tt)
    go (x ∷ p) g = (g.0, go p g.1)

-- ---- the walk

-- the walk's account: the entries, what is left of the allowance, and whether it was stopped before a probe
pub record Run : Type 0 where
  pub entries : List Entry
  pub left : ℕ
  pub spent : Bool

abbrev pub on : List Entry → ℕ → Run
on es a = record { entries = es; left = a; spent = false }

abbrev pub model_stopped : Run
model_stopped = record { entries = []; left = 0; spent = true }

-- one part of the walk, and then the next with the allowance that is left, unless the first was stopped
abbrev pub join : Run → Run → Run
join r s = record { entries = r.entries ++ s.entries; left = s.left; spent = s.spent }

abbrev pub and_then : Run → (ℕ → Run) → Run
and_then r k = elim r.spent [ true ↦ r | false ↦ join r (k r.left) ]

abbrev pub model_row : List ℕ → (ℕ → ℕ → Run) → ℕ → Run
model_row [] f a = on [] a
model_row (d ∷ ds) f a = and_then (f d a) (model_row ds f)

-- what follows a probe with the prefix p, by the meters that answer: none, one, or several
abbrev pub heard : List ℕ → List PlainMeter → (ℕ → Run) → ℕ → Run
heard p [] more a = on [] a
heard p (m ∷ []) more a = on (lone_entry p m ∷ []) a
heard p (m ∷ n ∷ ms) more a = more a

-- a probe is paid for; with nothing left the walk stops before it
abbrev pub paid : (ℕ → Run) → ℕ → Run
paid k zero = model_stopped
paid k (suc a) = k a

-- the walk from the prefix p on, with u digits still unknown and an allowance
unfoldable pub model_walk : ℕ → List PlainMeter → List ℕ → ℕ → Run
model_walk zero ms p = paid (heard p (having ms p) (on (many p (length (having ms p)) ∷ [])))
model_walk (suc u) ms p = paid (heard p (having ms p) (model_row ten (λ d. model_walk u ms (p ++ d ∷ []))))

-- what a search gives: the entries, the probes made, spent or not
pub record Found : Type 0 where
  pub entries : List Entry
  pub probes : ℕ
  pub spent : Bool

unfoldable pub model_search : List PlainMeter → ℕ → Found
model_search ms a = let r = model_walk 8 ms [] a in record { entries = r.entries; probes = a - r.left; spent = r.spent }
