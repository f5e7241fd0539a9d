use mathlib.Core.Path.{◌≡◌}
use Prim.Native.Nat.{◌*◌}
use lib.ListN.{length}
use Rattle.list_open.specs.Opening.{capacity}
use Rattle.segment_image.proofs.MeterLaws.{Put}
use Rattle.segment_image.proofs.write_meters.Given as goal

abbrev pub invariant-loop-i : goal.invariant-loop-i
invariant-loop-i l = (length l.bs ≡ 25 * capacity) × Put l.ms l.initial.bs l.i l.bs
