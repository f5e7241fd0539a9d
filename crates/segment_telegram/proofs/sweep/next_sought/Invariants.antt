use Rattle.segment_telegram.proofs.SweepLaws.{Skipping}
use Rattle.segment_telegram.proofs.sweep.next_sought.Given as goal

abbrev pub invariant-loop-i : goal.invariant-loop-i
invariant-loop-i l = Skipping l.q l.image l.from l.end l.i
