-- A baud change, refused or not.
use mathlib.Core.List.{[]}
use mathlib.Core.Path.{◌≡◌, sym}
use mathlib.Core.Bool.{Bool, true, false}
use Prim.Native.Nat.{ℕ}
use Rattle.meter.specs.Meter.{rates}
use Rattle.list_check.specs.Tables.{is_rate_value}
use Rattle.segment.specs.Plain.{Plain}
use Rattle.segment.specs.Calls.{accepted, refused, change_baud}

module _ (b : ℕ) (s : Plain) {rate : Bool} (e : rate ≡ is_rate_value rates b) where
  pub baud_refused : rate ≡ false → refused 10 s ≡ change_baud b s
  unfolding change_baud
  baud_refused h = sym (rw (sym e, h))

  pub baud_set : rate ≡ true → accepted (record { baud = b; origin = s.origin; input = []; queue = s.queue; meters = s.meters }) ≡ change_baud b s
  unfolding change_baud
  baud_set h = sym (rw (sym e, h))
