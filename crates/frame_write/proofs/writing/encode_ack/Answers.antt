use Rattle.std.proofs.Common.{refl, arith}
use Rattle.frame.specs.Frame.{ack, encode}
use Rattle.frame_write.proofs.writing.encode_ack.Goals as goal

pub returns : goal.returns
unfolding encode
returns c = c.write_front.ensures ack refl (omega arith)
