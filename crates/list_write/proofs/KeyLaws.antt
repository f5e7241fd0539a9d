-- The keys of media and faults.
use Rattle.std.specs.Prelude.{Some, option_map, unwrap_or}
use Rattle.std.specs.List.{find}
use mathlib.Core.Path.{◌≡◌, refl}
use mathlib.Core.Bool.{Bool, true, false, cond, ◌&&◌}
use mathlib.Core.List.{List, [], ◌∷◌, map}
use Prim.Native.Nat.{ℕ, ◌≤◌}
use native.Mathlib.Omega.{arith}
use denote.Enum.Bare.{sameb}
use lib.Dec.{eqb}
use lib.ListN.{length}
use Rattle.laws.specs.Words.{Every}
use Rattle.laws.proofs.Lists.{if_all}
use Rattle.meter.specs.contracts.Model.{the_type}
use Rattle.meter.specs.declared.Model.{Model}
use Rattle.meter.specs.declared.Model.TheVariants.{Heat, Electricity, Water, Fixed}
use Rattle.meter.specs.declared.Fault.{Fault}
use Rattle.meter.specs.declared.Fault.TheVariants.{None, Checksum, Truncated, Busy, WrongAddress, Flaky, TooMany}
use Rattle.list_check.specs.Tables.{Medium, media}
use Rattle.list_check.specs.ProgramKeys.{row_of}
use Rattle.list_check.specs.declared.tables.Keyed.{Keyed}
use Rattle.list_check.specs.declared.tables.Medium.{Medium as Valued}
use Rattle.list_write.specs.Record.{same_model_value, is_of_medium, medium_text, fault_text}

-- ---- `==` on models

pub same_model_lem : (a b : Model) → sameb the_type a b ≡ same_model_value a b
same_model_lem Heat Heat = refl
same_model_lem Heat Electricity = refl
same_model_lem Heat Water = refl
same_model_lem Heat Fixed = refl
same_model_lem Electricity Heat = refl
same_model_lem Electricity Electricity = refl
same_model_lem Electricity Water = refl
same_model_lem Electricity Fixed = refl
same_model_lem Water Heat = refl
same_model_lem Water Electricity = refl
same_model_lem Water Water = refl
same_model_lem Water Fixed = refl
same_model_lem Fixed Heat = refl
same_model_lem Fixed Electricity = refl
same_model_lem Fixed Water = refl
same_model_lem Fixed Fixed = refl

-- the medium of a row of the program's table
pub found_key : (rows : List (Keyed Valued)) (v : Valued)
    → unwrap_or (option_map (λ (row : Keyed Valued). row.key.now) (find (λ (row : Keyed Valued). eqb row.value.code v.code && sameb the_type row.value.model v.model) rows)) []
    ≡ medium_text (map row_of rows) v.code v.model
found_key [] v = refl
found_key (r ∷ rs) v = rw (same_model_lem r.value.model v.model) (go (is_of_medium v.code v.model (row_of r)) (found_key rs v))
  where
    go : (b : Bool)
        → unwrap_or (option_map (λ (row : Keyed Valued). row.key.now) (find (λ (row : Keyed Valued). eqb row.value.code v.code && sameb the_type row.value.model v.model) rs)) []
        ≡ medium_text (map row_of rs) v.code v.model
        → unwrap_or (option_map (λ (row : Keyed Valued). row.key.now)
        (cond b (Some r) (find (λ (row : Keyed Valued). eqb row.value.code v.code && sameb the_type row.value.model v.model) rs))) []
        ≡ cond b r.key.now (medium_text (map row_of rs) v.code v.model)
    go true h = refl
    go false h = h

-- ---- how long they are

short_one : (rs : List Medium) (n : ℕ) → Every (λ (r : Medium). length r.key ≤ n) rs → (code : ℕ) (model : Model) → length (medium_text rs code model) ≤ n
short_one [] n h code model = omega arith
short_one (r ∷ rs) n h code model = if_all (λ (t : List ℕ). length t ≤ n) (is_of_medium code model r) _ _ h.0 (short_one rs n h.1 code model)

pub medium_short : (code : ℕ) (model : Model) → length (medium_text media code model) ≤ 11
unfolding media
medium_short code model = short_one media 11 (omega arith, (omega arith, (omega arith, (omega arith, (omega arith, (omega arith, (omega arith, (omega arith, tt)))))))) code model

pub fault_short : (f : Fault) → length (fault_text f) ≤ 13
fault_short None = omega arith
fault_short Checksum = omega arith
fault_short Truncated = omega arith
fault_short Busy = omega arith
fault_short WrongAddress = omega arith
fault_short Flaky = omega arith
fault_short TooMany = omega arith
