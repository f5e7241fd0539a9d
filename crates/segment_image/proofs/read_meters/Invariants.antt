use mathlib.Core.Path.{◌≡◌}
use lib.ListN.{length}
use Rattle.list_open.specs.Opening.{capacity}
use Rattle.segment_image.proofs.MeterLaws.{Got}
use Rattle.segment_image.proofs.read_meters.Given as goal

abbrev pub invariant-loop-i : goal.invariant-loop-i
invariant-loop-i l = (length l.meters ≡ capacity) × Got l.bs l.i l.meters
