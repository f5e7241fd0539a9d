use lib.ListN.{length}
use Rattle.list.proofs.CountLaws.{Counted}
use Rattle.list.proofs.layout.count.Given as goal

abbrev pub invariant-loop-count : goal.invariant-loop-count
invariant-loop-count l = Counted l.records l.reader.rest.now l.count

abbrev pub decreases-loop-count : goal.decreases-loop-count
decreases-loop-count l = length l.reader.rest.now
