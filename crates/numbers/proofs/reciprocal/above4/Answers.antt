-- `numbers::reciprocal::above4` meets its contract.
use lib.Dec.{lit≤, lit<}
use Rattle.numbers.proofs.ReciprocalLaws.{reciprocal_upper}
use Rattle.numbers.proofs.reciprocal.above4.Goals as goal

pub returns : goal.returns
returns c = rw c.upper.ensures (reciprocal_upper _ _ _ _ _ (lit≤ tt) (lit< tt) c.ranges.v.fits)
