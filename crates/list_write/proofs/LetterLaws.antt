-- The letters of a manufacturer.
use Rattle.std.specs.Prelude.{if◌then◌else◌}
use mathlib.Core.Path.{◌≡◌, refl}
use mathlib.Core.Bool.{Bool, true, false, ◌&&◌}
use mathlib.Core.List.{List, []}
use Prim.Native.Nat.{ℕ, ◌≤◌}
use native.Mathlib.Omega.{arith}
use lib.Dec.{eqb}
use lib.ListN.{length, take}
use borrow.Author.Tests.{eq-eqb, ne_eqb}
use Rattle.laws.proofs.Lists.{if_all}
use Rattle.meter.specs.declared.Model.{Model}
use Rattle.list_check.specs.Tables.{medium_heat_old}
use Rattle.list_write.specs.Record.{is_of_medium, capitals, manufacturer_text}

-- how many there are
pub letters_coded : (code medium : ℕ) (model : Model) → (code ≡ 0 → ⊥) → 3 ≡ length (manufacturer_text code medium model)
unfolding manufacturer_text capitals
letters_coded code medium model h = rw (ne_eqb code 0 h)

pub letters_none : (code medium : ℕ) (model : Model) → code ≡ 0 → is_of_medium medium model medium_heat_old ≡ true → 0 ≡ length (manufacturer_text code medium model)
unfolding manufacturer_text
letters_none code medium model h s = rw (eq-eqb code 0 h, s)

pub letters_zero : (code medium : ℕ) (model : Model) → is_of_medium medium model medium_heat_old ≡ false → 3 ≡ length (manufacturer_text code medium model)
unfolding manufacturer_text capitals
letters_zero code medium model s = go (eqb code 0)
  where
    go : (b : Bool) → 3 ≡ length (if b && is_of_medium medium model medium_heat_old then [] else capitals code)
    go true = rw s
    go false = refl

-- so many of the three are the text
pub letters_are : (code medium : ℕ) (model : Model) → take (length (manufacturer_text code medium model)) (capitals code) ≡ manufacturer_text code medium model
unfolding manufacturer_text capitals
letters_are code medium model = if_all (λ (t : List ℕ). take (length t) (capitals code) ≡ t) (eqb code 0 && is_of_medium medium model medium_heat_old) _ _ refl refl

pub letters_few : (code medium : ℕ) (model : Model) → length (manufacturer_text code medium model) ≤ 3
unfolding manufacturer_text capitals
letters_few code medium model = if_all (λ (t : List ℕ). length t ≤ 3) (eqb code 0 && is_of_medium medium model medium_heat_old) _ _ (omega arith) (omega arith)
