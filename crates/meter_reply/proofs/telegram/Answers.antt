use Rattle.std.proofs.Common.{length, ap, arith, length-take, rules}
use Rattle.meter_reply.proofs.ReplyLaws.{sent_long}
use Rattle.meter_reply.proofs.telegram.Goals as goal

pub returns : goal.returns
returns c =
    let s = c.args in
    sent_long c.encode.result _ 0x08 s.address s.ci _ _ _ _ c.unwrap_or-len.ensures c.as_slice.ensures
    (omega (arith, ap length c.as_slice.ensures, length-take s.d.len s.d.bytes, s.d.fits)) (search rules) c.encode.ensures
