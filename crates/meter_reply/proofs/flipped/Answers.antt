use Rattle.std.proofs.Common.{◌≡◌, length, arith, length-take, rules}
use Rattle.meter_reply.proofs.ReplyLaws.{flip_taken}
use Rattle.meter_reply.proofs.flipped.Goals as goal

pub said_len-n-requires : goal.said_len-n-requires
said_len-n-requires c = tt

pub bounds-r-n : goal.bounds-r-n
bounds-r-n c = let r = c.args.r in let l : length r.bytes ≡ 96 = search rules in omega (arith, c.said_len-n.ensures.is, length-take r.len r.bytes)

pub bounds-r-n-2 : goal.bounds-r-n-2
bounds-r-n-2 c = let r = c.args.r in let l : length r.bytes ≡ 96 = search rules in omega (arith, c.said_len-n.ensures.is, length-take r.len r.bytes)

pub returns : goal.returns
returns c =
    let r = c.args.r in
    flip_taken r.len c.said_len-n.result r.bytes c.said_len-n.ensures.is (omega (arith, c.said_len-n.ensures.is, c.requires))
