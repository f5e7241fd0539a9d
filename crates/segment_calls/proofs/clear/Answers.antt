use Rattle.segment_calls.proofs.CallLaws.{cleared}
use Rattle.segment_calls.proofs.clear.Goals as goal

pub returns : goal.returns
returns c = cleared c.empty.ensures
