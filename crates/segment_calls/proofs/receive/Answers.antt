use Rattle.segment_calls.proofs.CallLaws.{received}
use Rattle.segment_calls.proofs.receive.Goals as goal

pub returns : goal.returns
returns c =
    let a = c.args in
    received a.image.now a.lent.now c.hand_out-n.ensures c.take_out.ensures
