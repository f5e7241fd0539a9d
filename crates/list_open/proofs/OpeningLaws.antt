-- The capacity; opened meters are at most as many, and each has an id of eight digits below ten. A refusal's number is
-- above 0, and its index below the capacity.
use Rattle.std.specs.Prelude.{if◌then◌else◌}
use mathlib.Core.Path.{◌≡◌, refl}
use mathlib.Core.Bool.{Bool, true, false, ◌||◌, not}
use mathlib.Core.List.{List, [], ◌∷◌, map}
use Prim.Native.Nat.{ℕ, ◌+◌, ◌-◌, ◌*◌, ◌≤◌, ◌<◌}
use native.Mathlib.Omega.{arith}
use lib.Dec.{eqb, ltb}
use borrow.Author.Tests.{eqb-true, lt-ltb, le-ltb, ltb-false}
use lib.ListN.{length, drop, length-map}
use Rattle.laws.specs.Words.{at, Every}
use Rattle.laws.proofs.Lists.{if_all, and_l, and_r}
use Rattle.meter.specs.Meter.{rates}
use Rattle.list_check.specs.Tables.{is_rate_value}
use Rattle.list.specs.Layout.{Listed, Layout, fits, no_fit, read_records}
use Rattle.list_check.specs.Check.{check, all_pass_value}
use Rattle.list_meter.proofs.IdLaws.{EightDigits, good_id_digits, check_id}
use Rattle.list_open.specs.Opening.{most_meters, capacity, Opened, opens, refuses, first_failing, open_records, open_list_value}
use Rattle.list_meter.specs.Fresh.{fresh}
use Rattle.list_open.proofs.FirstLaws.{first_number, first_inside}

-- the capacity, as a number
pub capacity-is : most_meters ≡ capacity
unfolding capacity
capacity-is = refl

-- ---- what an opening comes to, by its records

module _ (bus : ℕ) (practice : Bool) (rs : List Listed) where
  pub records_over : capacity < length rs → open_records bus practice (fits rs) ≡ refuses 3 0
  unfolding open_records
  records_over h = rw (lt-ltb capacity (length rs) h)

  pub records_failing : length rs ≤ capacity → all_pass_value rs ≡ false → open_records bus practice (fits rs) ≡ refuses (first_number rs) (first_failing rs)
  unfolding open_records
  records_failing h f = rw (le-ltb capacity (length rs) h, f)

  pub records_baud : length rs ≤ capacity → all_pass_value rs ≡ true → is_rate_value rates bus ≡ false → open_records bus practice (fits rs) ≡ refuses 10 0
  unfolding open_records
  records_baud h p r = rw (le-ltb capacity (length rs) h, p, r)

  pub records_opened : length rs ≤ capacity → all_pass_value rs ≡ true → is_rate_value rates bus ≡ true → open_records bus practice (fits rs) ≡ opens (map (fresh bus practice) rs)
  unfolding open_records
  records_opened h p r = rw (le-ltb capacity (length rs) h, p, r)

-- ---- what holds of every opening

pass_fresh : (bus : ℕ) (practice : Bool) (rs : List Listed) → all_pass_value rs ≡ true → Every (λ m. EightDigits m.digits) (map (fresh bus practice) rs)
unfolding fresh
pass_fresh bus practice [] h = tt
pass_fresh bus practice (r ∷ rs) h =
    (good_id_digits r.id (check_id r (eqb-true (check r) 0 (and_l (eqb (check r) 0) (all_pass_value rs) h))), pass_fresh bus practice rs (and_r (eqb (check r) 0) (all_pass_value rs) h))

-- what is claimed of an opening
abbrev pub OpensWell : Opened → Type 0
OpensWell (opens ms) = (length ms ≤ capacity) × Every (λ m. EightDigits m.digits) ms
OpensWell (refuses number index) = (0 < number) × (index < most_meters)

open_records_well : (bus : ℕ) (practice : Bool) (l : Layout) → OpensWell (open_records bus practice l)
unfolding open_records
open_records_well bus practice no_fit = (omega arith, omega arith)
open_records_well bus practice (fits rs) = go (ltb capacity (length rs)) refl (all_pass_value rs) refl (is_rate_value rates bus)
  where
    go : (a : Bool) → ltb capacity (length rs) ≡ a → (b : Bool) → all_pass_value rs ≡ b → (c : Bool)
        → OpensWell (if a then refuses 3 0 else (if not b then refuses (first_number rs) (first_failing rs) else (if not c then refuses 10 0 else opens (map (fresh bus practice) rs))))
    go true e b f c = (omega arith, omega arith)
    go false e false f c =
        let i = first_inside rs f in
        (i.0, omega (arith, i.1, ltb-false capacity (length rs) e, capacity-is))
    go false e true f false = (omega arith, omega arith)
    go false e true f true = (omega (arith, ltb-false capacity (length rs) e, length-map rs (fresh bus practice)), pass_fresh bus practice rs f)

pub open_list_well : (bs : List ℕ) (bus : ℕ) (practice : Bool) → OpensWell (open_list_value bs bus practice)
unfolding open_list_value
open_list_well bs bus practice =
    if_all OpensWell (ltb (length bs) 3 || not (eqb (at bs 0) 1)) _ _ (omega arith, omega arith)
    (if_all OpensWell (not (eqb (at bs 1 * 256 + at bs 2) (length bs - 3))) _ _ (omega arith, omega arith) (open_records_well bus practice (read_records (length bs) (drop 3 bs))))
