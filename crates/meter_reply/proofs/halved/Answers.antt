use Rattle.meter_reply.proofs.ReplyLaws.{cut_taken}
use Rattle.meter_reply.proofs.halved.Goals as goal

pub said_len-requires : goal.said_len-requires
said_len-requires c = tt

pub returns : goal.returns
returns c = let r = c.args.r in cut_taken r.len c.said_len.result r.bytes c.said_len.ensures.is
