-- The meters of an image hear a telegram.
use Rattle.std.specs.Prelude.{◌≡◌, Bool, true, false, List, [], ◌∷◌, ◌++◌, map, ℕ, ◌≤◌, ◌<◌, set}
use Rattle.frame.specs.Frame.{Telegram}
use Rattle.time_clock.specs.declared.Clock.{Clock}
use Rattle.meter.specs.PlainMeter.{PlainMeter}
use Rattle.meter_step.specs.Hear.{Heard}
use Rattle.meter_concern.specs.ProgramConcern.{concerns, concerns_by}
use Rattle.meter_concern.specs.declared.Seeking.{Seeking}
use Rattle.meter_concern.specs.ProgramSeeking.{Seeks}
use Rattle.segment_replies.specs.declared.Joining.{Joining}
use Rattle.segment_replies.specs.ProgramJoining.{Joins}
use Rattle.segment_telegram.specs.Handled.{replies, heard_by}
use Rattle.segment_image.specs.Image.{decode_image}
use Rattle.segment.specs.Plain.{with_meters}
use Rattle.segment_places.specs.ProgramBecomes.{meter_in, Becomes}

-- whether a telegram may do anything to a meter
abbrev pub concerns_meter : Telegram → PlainMeter → Bool
concerns_meter t m = concerns t m.primary m.selected m.digits

-- r is the first place, from one on, of a meter that every telegram concerns whose meters q seeks; or the end. None
-- of those concerns a meter before it
pub record Skips (q : Seeking) (image : List ℕ) (from end r : ℕ) : Type 0 where
  pub onward : from ≤ r
  pub within : r ≤ end
  pub past : (t : Telegram) → Seeks (concerns_by t) q → (j : ℕ) → from ≤ j → j < r → concerns_meter t (meter_in j image) ≡ false
  pub there : (t : Telegram) → Seeks (concerns_by t) q → r < end → concerns_meter t (meter_in r image) ≡ true

-- the meter at the place i hears in the way f, and its reply, if it gives one, is joined to those before it
pub record MeterHears (f : PlainMeter → Heard) (i : ℕ) (old : List ℕ) (kept : Joining) (new : List ℕ) (r : Joining) : Type 0 where
  pub becomes : Becomes old (with_meters (set (decode_image old).meters i (f (meter_in i old)).meter) (decode_image old)) new
  pub joins : (rs : List (List ℕ)) → Joins rs kept → Joins (rs ++ replies (f (meter_in i old) ∷ [])) r

-- every meter hears the telegram t, and their replies are joined
pub record Sweeps (t : Telegram) (k : Clock) (old new : List ℕ) (kept : Joining) : Type 0 where
  pub becomes : Becomes old (with_meters (map (λ h. h.meter) (heard_by t k (decode_image old))) (decode_image old)) new
  pub joins : Joins (replies (heard_by t k (decode_image old))) kept
