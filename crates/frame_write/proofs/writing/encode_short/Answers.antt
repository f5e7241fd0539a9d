use Rattle.std.proofs.Common.{arith}
use Rattle.frame.specs.Frame.{short}
use Rattle.frame_write.proofs.WritingLaws.{short_bytes}
use Rattle.frame_write.proofs.writing.encode_short.Goals as goal

pub returns : goal.returns
returns c = let a = c.args in c.write_front.ensures (short a.control a.address) (short_bytes a.control a.address) (omega arith)
