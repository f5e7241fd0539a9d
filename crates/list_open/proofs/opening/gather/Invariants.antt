use lib.ListN.{length}
use Rattle.list_open.proofs.GatherLaws.{Gathered}
use Rattle.list_open.proofs.opening.gather.Given as goal

abbrev pub invariant-loop-listed : goal.invariant-loop-listed
invariant-loop-listed l = Gathered l.list l.bus l.practice l.reader.rest.now l.opened

abbrev pub decreases-loop-listed : goal.decreases-loop-listed
decreases-loop-listed l = length l.reader.rest.now
