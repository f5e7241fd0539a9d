-- The plain segment (01, "The plain segment").
use Rattle.std.specs.Prelude.{List, [], ℕ, Float}
use Rattle.time_seconds.specs.Seconds.{zero_seconds}
use Rattle.meter.specs.PlainMeter.{PlainMeter}

-- "It holds bus baud, origin, waiting input, queue and the meters in list order"
pub record Plain : Type 0 where
  pub baud : ℕ
  pub origin : Float
  pub input : List ℕ
  pub queue : List ℕ
  pub meters : List PlainMeter

-- "a segment of no meters, 2400 Bd, origin 0": what a refused first opening gives
unfoldable pub blank : Plain
blank = record { baud = 2400; origin = zero_seconds; input = []; queue = []; meters = [] }

-- with another bus baud, other waiting input, another queue, other meters
abbrev pub with_baud_value : ℕ → Plain → Plain
with_baud_value b s = record { baud = b; origin = s.origin; input = s.input; queue = s.queue; meters = s.meters }

abbrev pub with_input : List ℕ → Plain → Plain
with_input bs s = record { baud = s.baud; origin = s.origin; input = bs; queue = s.queue; meters = s.meters }

abbrev pub with_queue : List ℕ → Plain → Plain
with_queue bs s = record { baud = s.baud; origin = s.origin; input = s.input; queue = bs; meters = s.meters }

abbrev pub with_meters : List PlainMeter → Plain → Plain
with_meters ms s = record { baud = s.baud; origin = s.origin; input = s.input; queue = s.queue; meters = ms }
