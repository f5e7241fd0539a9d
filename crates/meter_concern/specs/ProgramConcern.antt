-- Which meters the program steps at all. The word is the program's: that the others stay as they are, without a
-- reply, is proved
-- (proofs/ConcernLaws, `unconcerned`).
use Rattle.std.specs.Prelude.{Bool, false, ◌||◌, List, ℕ, if◌then◌else◌}
use Rattle.frame.specs.Frame.{Telegram, ack, short, long}
use Rattle.meter_identity.specs.Identity.{digits_of_value}
use Rattle.meter_select.specs.Matching.{id_matches_value}
use Rattle.meter_step.specs.Hear.{is_select_value, reaches}

-- whether a telegram may do anything to a meter with this primary address, selection and id: a select to a selected
-- meter and to one
-- whose id it matches, any other to its target. Where this is false it does nothing
unfoldable pub concerns : Telegram → (primary : ℕ) → (selected : Bool) → (digits : List ℕ) → Bool
concerns ack primary selected digits = false
concerns (short c a) primary selected digits = reaches a primary selected
concerns (long c a ci d) primary selected digits = if is_select_value ci a then selected || id_matches_value d digits else reaches a primary selected

-- the same by the id as a number
abbrev pub concerns_by : Telegram → (primary : ℕ) → (selected : Bool) → (id : ℕ) → Bool
concerns_by t primary selected id = concerns t primary selected (digits_of_value id)
