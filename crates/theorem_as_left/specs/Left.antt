-- "as calls left it" (02): the segments that calls reach, and what holds of each of them.
use Rattle.std.specs.Prelude.{◌≡◌, true, List, ◌∷◌, ℕ, ◌≤◌, ◌<◌, length}
use Rattle.laws.specs.Words.{Every}
use Rattle.frame.specs.Frame.{incomplete, parse}
use Rattle.meter_identity.specs.Identity.{manufacturer_code_value}
use Rattle.meter.specs.PlainMeter.{PlainMeter}
use Rattle.meter.specs.Meter.{rates}
use Rattle.list_check.specs.Tables.{Medium, media, medium_heat_old, is_rate_value}
use Rattle.list_check.specs.Check.{all_within_value}
use Rattle.list_open.specs.Opening.{capacity}
use Rattle.segment.specs.Plain.{Plain, blank}
use Rattle.theorem_calls.specs.Call.{Call, after_call, after_calls}
use Rattle.theorem_calls.specs.Fit.{FitCall}

-- a list of calls, with arguments that are values of their types, leaves the segment s. The first of them gets `blank`,
-- the segment that a refused first opening gives
pub record AsCallsLeft (s : Plain) : Type 0 where
  pub calls : List Call
  pub fit : Every FitCall calls
  pub left : after_calls calls blank ≡ s

-- ---- what holds of each of them

-- the code of a manufacturer that passes: of three capital letters; "An empty manufacturer passes only for heat_old"
pub data MakerPasses (m : PlainMeter) : Type 0 where
  named : (t : List ℕ) → length t ≡ 3 → all_within_value 0x41 0x5A t ≡ true → m.manufacturer ≡ manufacturer_code_value t → MakerPasses m
  unnamed : m.manufacturer ≡ 0 → m.medium ≡ medium_heat_old.code → m.model ≡ medium_heat_old.model → MakerPasses m

-- the code and the model of a meter are those of one of these media
pub data InMedia (m : PlainMeter) : List Medium → Type 0 where
  first : {r : Medium} {rs : List Medium} → m.medium ≡ r.code → m.model ≡ r.model → InMedia m (r ∷ rs)
  later : {r : Medium} {rs : List Medium} → InMedia m rs → InMedia m (r ∷ rs)

-- a meter: what its record had to be, and calls keep; its baud is one of the eight. Nothing is said of its primary, which
-- CI 51 changes
pub record SoundMeter (m : PlainMeter) : Type 0 where
  pub eight : length m.digits ≡ 8
  pub decimals : Every (λ d. d < 10) m.digits
  pub maker : MakerPasses m
  pub version : m.version < 256
  pub medium : InMedia m media
  pub baud : is_rate_value rates m.baud ≡ true

-- a segment: its bus baud is one of the eight, what waits is incomplete or nothing, the queue has not passed 4,096, and
-- its meters are sound, and no more than a segment can have
pub record Sound (s : Plain) : Type 0 where
  pub baud : is_rate_value rates s.baud ≡ true
  pub waits : (n : ℕ) × (parse s.input ≡ incomplete n)
  pub queued : length s.queue ≤ 4096
  pub few : length s.meters ≤ capacity
  pub meters : Every SoundMeter s.meters

-- every call keeps what an opening gives,
abbrev pub CallsKeepSound : Type 0
CallsKeepSound = (c : Call) (s : Plain) → FitCall c → Sound s → Sound (after_call c s)

-- so that it holds of every segment as calls left it,
abbrev pub LeftSound : Type 0
LeftSound = (s : Plain) → AsCallsLeft s → Sound s

-- and one call more leaves such a segment
abbrev pub LeftByOneMore : Type 0
LeftByOneMore = (c : Call) (s : Plain) → FitCall c → AsCallsLeft s → AsCallsLeft (after_call c s)
