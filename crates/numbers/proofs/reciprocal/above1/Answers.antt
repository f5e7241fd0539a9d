-- `numbers::reciprocal::above1` meets its contract.
use lib.Dec.{lit≤, lit<}
use Rattle.numbers.proofs.ReciprocalLaws.{reciprocal}
use Rattle.numbers.proofs.reciprocal.above1.Goals as goal

pub returns : goal.returns
returns c = reciprocal _ _ _ _ _ (lit≤ tt) (lit< tt) c.requires
