use Rattle.frame_write.proofs.WritingLaws.{sum_long}
use Rattle.frame_write.proofs.writing.long_sum.Goals as goal

pub returns : goal.returns
returns c =
    let a = c.args in
    rw c.checksum.ensures (sum_long a.control a.address a.ci a.«data».now)
