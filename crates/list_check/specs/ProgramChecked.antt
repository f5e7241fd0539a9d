-- What the program makes of a record's own baud. That it comes to the rule of 01 and to `own_of` is proved
-- (proofs/VerdictLaws, `baud_good` and `baud_bad`).
use Rattle.std.specs.Prelude.{ℕ, eqb, if◌then◌else◌, Option, Some, None, Result, Ok, Err}
use Rattle.meter.specs.Meter.{rates}
use Rattle.list_check.specs.Tables.{is_rate_value}
use Rattle.list_check.specs.declared.Failing.{Failing}
use Rattle.list_check.specs.declared.Failing.TheVariants.{BadBaud}

-- no own baud for 0; a rate is the own baud; any other number is refused
unfoldable pub own_baud_checked : ℕ → Result (Option ℕ) Failing
own_baud_checked baud = if eqb baud 0 then Ok None else if is_rate_value rates baud then Ok (Some baud) else Err BadBaud
