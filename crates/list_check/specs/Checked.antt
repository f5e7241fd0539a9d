-- What the program's `check` gives: the values of a record that passes, or what it fails with.
use Rattle.std.specs.Prelude.{◌≡◌, ℕ, eqb, if◌then◌else◌, Option, Some, None, Result, Ok, Err}
use Rattle.laws.specs.Refusal.{not_refused, refused_primary, refused_id, refused_manufacturer, refused_medium, refused_own_baud, refused_fault}
use Rattle.meter_identity.specs.Identity.{manufacturer_code_value, in_base, decimal}
use Rattle.list_check.specs.Tables.{media, faults, medium_of, fault_of}
use Rattle.list.specs.Layout.{Listed}
use Rattle.list_check.specs.Check.{text_digits, check}
use Rattle.list_check.specs.declared.Values.{Values}
use Rattle.list_check.specs.declared.Failing.{Failing}
use Rattle.list_check.specs.declared.Failing.TheVariants.{BadPrimary, BadId, BadManufacturer, BadMedium, BadBaud, BadFault}

-- own baud in a record: "0 = the bus's at opening"
abbrev pub own_of : ℕ → Option ℕ
own_of baud = if eqb baud 0 then None else Some baud

-- the values that a record's texts stand for; the id once as BCD nibbles, once as a decimal number
unfoldable pub values_of : Listed → Values
values_of r =
    record {
      primary = r.primary;
      version = r.version;
      baud = own_of r.baud;
      id = in_base 16 (text_digits r.id);
      number = decimal (text_digits r.id);
      manufacturer = manufacturer_code_value r.manufacturer;
      medium = record { code = (medium_of media r.medium).code; model = (medium_of media r.medium).model };
      fault = fault_of faults r.fault;
    }

-- 4: primary over 250; 5: id; 6: manufacturer; 7: medium; 8: own baud; 9: fault
abbrev pub fail_number_value : Failing → ℕ
fail_number_value BadPrimary = refused_primary
fail_number_value BadId = refused_id
fail_number_value BadManufacturer = refused_manufacturer
fail_number_value BadMedium = refused_medium
fail_number_value BadBaud = refused_own_baud
fail_number_value BadFault = refused_fault

-- 0: the record passes
abbrev pub check_number : Result Values Failing → ℕ
check_number (Ok v) = not_refused
check_number (Err f) = fail_number_value f

-- what has a number of 4 to 9
abbrev pub failing_of : ℕ → Failing
failing_of n =
    if eqb n refused_primary then BadPrimary else
    if eqb n refused_id then BadId else
    if eqb n refused_manufacturer then BadManufacturer else
    if eqb n refused_medium then BadMedium else
    if eqb n refused_own_baud then BadBaud else
    BadFault

unfoldable pub checked_of : Listed → Result Values Failing
checked_of r = if eqb (check r) not_refused then Ok (values_of r) else Err (failing_of (check r))

-- the answer has the number of 01, and if that is 0 the record's values
pub record CheckGives (r : Listed) (a : Result Values Failing) : Type 0 where
  pub number : check_number a ≡ check r
  pub is : a ≡ checked_of r
