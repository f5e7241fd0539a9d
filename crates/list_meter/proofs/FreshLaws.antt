-- The program's fresh meter is the plain one: the id's nibbles are its digits.
use Rattle.std.specs.Prelude.{if◌then◌else◌, Some, None}
use mathlib.Core.Path.{◌≡◌, refl}
use mathlib.Core.Bool.{Bool, true, false}
use lib.Dec.{eqb}
use mathlib.Core.List.{List}
use Prim.Native.Nat.{ℕ}
use native.Mathlib.Omega.{arith}
use Rattle.laws.proofs.Lists.{every_map}
use Rattle.meter_identity.proofs.IdentityLaws.{nibbles_back}
use Rattle.meter_identity.specs.Identity.{in_base, digits_of_value}
use Rattle.meter.specs.View.{plain_meter}
use Rattle.list.specs.Layout.{Listed}
use Rattle.list_check.specs.Check.{check}
use Rattle.list_meter.specs.Fresh.{other_than_bus_value, own_baud_value, seed_of_value, fresh}
use Rattle.list_check.specs.Checked.{own_of, values_of}
use Rattle.list_meter.specs.ProgramFresh.{baud_from, fresh_of}
use Rattle.list_meter.proofs.IdLaws.{EightDigits, good_id_digits, check_id}

-- the own baud that a record's number stands for
pub baud_from_lem : (bus : ℕ) (practice : Bool) (own : ℕ) → baud_from bus practice (own_of own) ≡ own_baud_value bus practice own
unfolding own_baud_value
baud_from_lem bus practice own = go (eqb own 0)
  where
    go : (zero : Bool) → baud_from bus practice (if zero then None else Some own) ≡ (if zero then bus else other_than_bus_value bus practice own)
    go true = refl
    go false = refl

-- an id's digits, taken out of its number again
id_back : {ds : List ℕ} → EightDigits ds → digits_of_value (in_base 16 ds) ≡ ds
id_back {ds} (l, e) = nibbles_back ds l (every_map (λ d h. omega arith) ds e)

pub fresh-plain : (bus : ℕ) (practice : Bool) (r : Listed) → check r ≡ 0 → plain_meter (fresh_of bus practice (values_of r)) ≡ fresh bus practice r
unfolding fresh_of values_of fresh seed_of_value
fresh-plain bus practice r h = rw (id_back (good_id_digits r.id (check_id r h)), baud_from_lem bus practice r.baud)
