use Rattle.std.proofs.Common.{◌≤◌}
use Rattle.search_packed.specs.ProgramMarks.{masked, acked}
use Rattle.search_packed.proofs.MarkSweep.{Sweep}
use Rattle.search_packed.proofs.marks.send_mask.Given as goal

abbrev pub invariant-loop-i : goal.invariant-loop-i
invariant-loop-i l = (l.acks ≤ l.i) × (l.low ≤ l.high) × Sweep (masked l.low l.high) (acked l.low l.high) 0 l.keys l.initial.marks l.i l.marks l.acks
