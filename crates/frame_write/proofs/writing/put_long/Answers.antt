use Rattle.frame_write.proofs.WritingLaws.{long_put}
use Rattle.frame_write.proofs.writing.put_long.Goals as goal

pub returns : goal.returns
returns c =
    let a = c.args in
    long_put a.control a.address a.ci a.«data».now a.lent.now _ _ _ _
    c.long_sum.ensures c.put.ensures c.put-2.ensures c.put-3.ensures
