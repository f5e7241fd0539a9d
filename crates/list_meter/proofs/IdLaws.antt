-- A record that passes has an id of eight digits below ten.
use Rattle.std.specs.Prelude.{if◌then◌else◌}
use mathlib.Core.Path.{◌≡◌, refl, ◌∙◌}
use mathlib.Core.Bool.{Bool, true, false, ◌&&◌, ◌||◌, not}
use mathlib.Core.List.{List, [], ◌∷◌}
use Prim.Native.Nat.{ℕ, ◌-◌, ◌<◌}
use native.Mathlib.Omega.{arith}
use lib.Dec.{eqb, leb, ltb}
use borrow.Author.Tests.{eqb-true, leb-true}
use lib.ListN.{length, length-map}
use Rattle.laws.specs.Words.{Every}
use Rattle.laws.proofs.Lists.{and_l, and_r}
use Rattle.meter.specs.Meter.{rates}
use Rattle.list_check.specs.Tables.{media, faults, is_medium_value, is_fault, is_rate_value}
use Rattle.list.specs.Layout.{Listed}
use Rattle.list_check.specs.Check.{all_within_value, text_digits, good_id_value, good_manufacturer_value, check}

-- eight digits, each below ten
abbrev pub EightDigits : List ℕ → Type 0
EightDigits ds = (length ds ≡ 8) × Every (λ d. d < 10) ds

within_digits : (t : List ℕ) → all_within_value 0x30 0x39 t ≡ true → Every (λ d. d < 10) (text_digits t)
within_digits [] h = tt
within_digits (c ∷ t) h =
    let here = and_l (leb 0x30 c && leb c 0x39) (all_within_value 0x30 0x39 t) h in
    (omega (arith, leb-true c 0x39 (and_r (leb 0x30 c) (leb c 0x39) here)), within_digits t (and_r (leb 0x30 c && leb c 0x39) (all_within_value 0x30 0x39 t) h))

pub good_id_digits : (t : List ℕ) → good_id_value t ≡ true → EightDigits (text_digits t)
unfolding good_id_value
good_id_digits t h = (length-map t (λ c. c - 0x30) ∙ eqb-true (length t) 8 (and_l (eqb (length t) 8) (all_within_value 0x30 0x39 t) h), within_digits t (and_r (eqb (length t) 8) (all_within_value 0x30 0x39 t) h))

-- a record that passes has a good id
pub check_id : (r : Listed) → check r ≡ 0 → good_id_value r.id ≡ true
unfolding check
check_id r h = go (ltb 250 r.primary) (good_id_value r.id) refl h
  where
    go : (a b : Bool) → good_id_value r.id ≡ b
        → ◌≡◌ {A = ℕ} (if a then 4 else (if not b then 5 else (if not (good_manufacturer_value r.manufacturer r.medium) then 6 else (if not (is_medium_value media r.medium) then 7 else
        (if not (eqb r.baud 0 || is_rate_value rates r.baud) then 8 else (if not (is_fault faults r.fault) then 9 else 0)))))) 0 → good_id_value r.id ≡ true
    go true b e f = absurd (omega arith)
    go false true e f = e
    go false false e f = absurd (omega arith)
