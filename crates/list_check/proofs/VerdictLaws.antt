-- The verdict of `check`, by the rules that hold: one law for each rule that a record fails, and one for a record
-- that passes.
use Rattle.std.specs.Prelude.{if◌then◌else◌, Option, Some, None, Result, Ok, Err}
use mathlib.Core.Path.{◌≡◌, refl, sym, ap, subst, ◌∙◌}
use mathlib.Core.Bool.{Bool, true, false, ◌||◌, not}
use Prim.Native.Nat.{ℕ, ◌≤◌, ◌<◌}
use native.Mathlib.Omega.{arith}
use lib.Dec.{eqb, ltb}
use borrow.Author.Tests.{lt-ltb, le-ltb}
use Rattle.meter.specs.Meter.{rates}
use Rattle.meter_identity.specs.Identity.{manufacturer_code_value, in_base}
use Rattle.list_check.specs.Tables.{Medium, FaultKey, media, faults, is_medium_value, is_fault, is_rate_value}
use Rattle.list_check.specs.ProgramKeys.{medium_row, fault_row}
use Rattle.list.specs.Layout.{Listed}
use Rattle.list_check.specs.Check.{text_digits, good_id_value, good_manufacturer_value, check}
use Rattle.list_check.specs.Checked.{own_of, values_of, fail_number_value, failing_of, checked_of, CheckGives}
use Rattle.list_check.specs.ProgramChecked.{own_baud_checked}
use Rattle.list_check.specs.declared.Values.{Values}
use Rattle.list_check.specs.declared.Failing.{Failing}
use Rattle.list_check.specs.declared.Failing.TheVariants.{BadPrimary, BadId, BadManufacturer, BadMedium, BadBaud, BadFault}
use Rattle.list_check.proofs.KeyLaws.{medium_there, medium_absent, fault_there, fault_absent}

fails : (l : Listed) (f : Failing) → check l ≡ fail_number_value f → CheckGives l (Err f)
unfolding checked_of
fails l BadPrimary e = record { number = sym e; is = rw e }
fails l BadId e = record { number = sym e; is = rw e }
fails l BadManufacturer e = record { number = sym e; is = rw e }
fails l BadMedium e = record { number = sym e; is = rw e }
fails l BadBaud e = record { number = sym e; is = rw e }
fails l BadFault e = record { number = sym e; is = rw e }

checked_passes : (l : Listed) → check l ≡ 0 → Ok (values_of l) ≡ checked_of l
unfolding checked_of
checked_passes l e = rw e

-- the own baud, checked
baud_good : (n : ℕ) {o : Option ℕ} → Ok o ≡ own_baud_checked n → (eqb n 0 || is_rate_value rates n ≡ true) × (o ≡ own_of n)
unfolding own_baud_checked
baud_good n {o} e = go (eqb n 0) (is_rate_value rates n) e
  where
    go : (a b : Bool) → ◌≡◌ {A = Result (Option ℕ) Failing} (Ok o) (if a then Ok None else (if b then Ok (Some n) else Err BadBaud)) → (a || b ≡ true) × (o ≡ (if a then None else Some n))
    go true b f = (refl, cc)
    go false true f = (refl, cc)
    go false false f = cc

baud_bad : (n : ℕ) {f : Failing} → Err f ≡ own_baud_checked n → (eqb n 0 || is_rate_value rates n ≡ false) × (f ≡ BadBaud)
unfolding own_baud_checked
baud_bad n {f} e = go (eqb n 0) (is_rate_value rates n) e
  where
    go : (a b : Bool) → ◌≡◌ {A = Result (Option ℕ) Failing} (Err f) (if a then Ok None else (if b then Ok (Some n) else Err BadBaud)) → (a || b ≡ false) × (f ≡ BadBaud)
    go true b g = cc
    go false true g = cc
    go false false g = (refl, cc)

pub gives_primary : (l : Listed) → 250 < l.primary → CheckGives l (Err BadPrimary)
unfolding check
gives_primary l h = fails l BadPrimary (rw (lt-ltb 250 l.primary h))

module _ (l : Listed) (h : l.primary ≤ 250) where
  pub gives_id : good_id_value l.id ≡ false → CheckGives l (Err BadId)
  unfolding check
  gives_id a = fails l BadId (rw (le-ltb 250 l.primary h, a))

  module _ (a : good_id_value l.id ≡ true) where
    pub gives_manufacturer : good_manufacturer_value l.manufacturer l.medium ≡ false → CheckGives l (Err BadManufacturer)
    unfolding check
    gives_manufacturer b = fails l BadManufacturer (rw (le-ltb 250 l.primary h, a, b))

    module _ (b : good_manufacturer_value l.manufacturer l.medium ≡ true) where
      pub gives_medium : ◌≡◌ {A = Option Medium} None (medium_row media l.medium) → CheckGives l (Err BadMedium)
      unfolding check
      gives_medium c = fails l BadMedium (rw (le-ltb 250 l.primary h, a, b, medium_absent media l.medium c))

      module _ {m : Medium} (c : Some m ≡ medium_row media l.medium) where
        pub gives_baud : {f : Failing} → Err f ≡ own_baud_checked l.baud → CheckGives l (Err f)
        unfolding check
        gives_baud e =
            let p = baud_bad l.baud e in
            subst (λ (f : Failing). CheckGives l (Err f)) (sym p.1) (fails l BadBaud (rw (le-ltb 250 l.primary h, a, b, (medium_there media l.medium c).0, p.0)))

        module _ {o : Option ℕ} (e : Ok o ≡ own_baud_checked l.baud) where
          pub gives_fault : ◌≡◌ {A = Option FaultKey} None (fault_row faults l.fault) → CheckGives l (Err BadFault)
          unfolding check
          gives_fault g = fails l BadFault (rw (le-ltb 250 l.primary h, a, b, (medium_there media l.medium c).0, (baud_good l.baud e).0, fault_absent faults l.fault g))

          module _ {k : FaultKey} (g : Some k ≡ fault_row faults l.fault) where
            passes : check l ≡ 0
            unfolding check
            passes = rw (le-ltb 250 l.primary h, a, b, (medium_there media l.medium c).0, (baud_good l.baud e).0, (fault_there faults l.fault g).0)

            values_are : {x y z : ℕ} → x ≡ in_base 16 (text_digits l.id) → y ≡ in_base 10 (text_digits l.id) → z ≡ manufacturer_code_value l.manufacturer
                → ◌≡◌ {A = Values} (record { primary = l.primary; version = l.version; baud = o; id = x; number = y; manufacturer = z; medium = record { code = m.code; model = m.model }; fault = k.fault }) (values_of l)
            unfolding values_of
            values_are p q r = rw (p, q, r, (baud_good l.baud e).1, (medium_there media l.medium c).1, (fault_there faults l.fault g).1)

            pub gives_values : {x y z : ℕ} → x ≡ in_base 16 (text_digits l.id) → y ≡ in_base 10 (text_digits l.id) → z ≡ manufacturer_code_value l.manufacturer
                → CheckGives l (Ok (record { primary = l.primary; version = l.version; baud = o; id = x; number = y; manufacturer = z; medium = record { code = m.code; model = m.model }; fault = k.fault }))
            gives_values p q r = record { number = sym passes; is = ap (λ (v : Values). Ok v) (values_are p q r) ∙ checked_passes l passes }

-- what a failing record is refused with has its number
pub check-number : (l : Listed) → (check l ≡ 0 → ⊥) → fail_number_value (failing_of (check l)) ≡ check l
unfolding check
check-number l = go (ltb 250 l.primary) (good_id_value l.id) (good_manufacturer_value l.manufacturer l.medium) (is_medium_value media l.medium) (eqb l.baud 0 || is_rate_value rates l.baud) (is_fault faults l.fault)
  where
    -- the verdict over its six tests
    over : Bool → Bool → Bool → Bool → Bool → Bool → ℕ
    over a b c d e f = if a then 4 else (if not b then 5 else (if not c then 6 else (if not d then 7 else (if not e then 8 else (if not f then 9 else 0)))))

    go : (a b c d e f : Bool) → (over a b c d e f ≡ 0 → ⊥) → fail_number_value (failing_of (over a b c d e f)) ≡ over a b c d e f
    go true b c d e f h = refl
    go false false c d e f h = refl
    go false true false d e f h = refl
    go false true true false e f h = refl
    go false true true true false f h = refl
    go false true true true true false h = refl
    go false true true true true true h = absurd (h refl)

-- which is one of 4 to 9
pub failing_between : (f : Failing) → (4 ≤ fail_number_value f) × (fail_number_value f ≤ 9)
failing_between BadPrimary = (omega arith, omega arith)
failing_between BadId = (omega arith, omega arith)
failing_between BadManufacturer = (omega arith, omega arith)
failing_between BadMedium = (omega arith, omega arith)
failing_between BadBaud = (omega arith, omega arith)
failing_between BadFault = (omega arith, omega arith)
