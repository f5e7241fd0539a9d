use Prim.Native.Nat.{◌≤◌, ◌-◌}
use lib.ListN.{length}
use Rattle.segment_send.proofs.TelegramLaws.{Left}
use Rattle.segment_send.proofs.telegrams.handle_in_turn.Given as goal

abbrev pub invariant-loop-frame : goal.invariant-loop-frame
invariant-loop-frame l = (l.pos ≤ length l.bytes) × Left l.clock l.bytes l.initial.image l.pos l.image

abbrev pub decreases-loop-frame : goal.decreases-loop-frame
decreases-loop-frame l = length l.bytes - l.pos
