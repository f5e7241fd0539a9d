use mathlib.Core.Path.{◌≡◌}
use Prim.Native.Nat.{◌≤◌, ◌-◌}
use lib.ListN.{length}
use Rattle.frame.specs.View.{telegram_of}
use Rattle.time_seconds.specs.Seconds.{elapsed_of_value}
use Rattle.meter_step.specs.Hear.{hear}
use Rattle.segment_image.specs.Image.{decode_image}
use Rattle.segment_telegram.proofs.SweepLaws.{Sweeping}
use Rattle.segment_telegram.proofs.sweep.sweep.Given as goal

abbrev pub invariant-loop-i : goal.invariant-loop-i
invariant-loop-i l =
    (l.from ≤ l.end) × (l.end ≡ length (decode_image l.initial.image).meters) × Sweeping (hear l.bus (telegram_of l.frame) (elapsed_of_value l.clock.now (decode_image l.initial.image).origin) l.clock) l.initial.image l.from l.image l.joining

abbrev pub decreases-loop-i : goal.decreases-loop-i
decreases-loop-i l = l.end - l.from
