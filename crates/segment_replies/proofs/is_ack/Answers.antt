use Rattle.std.proofs.Common.{◌≡◌, length, ◌∙◌, arith, rules, ne_eqb}
use Rattle.segment_replies.proofs.OverlayLaws.{no_ack}
use Rattle.segment_replies.proofs.is_ack.Goals as goal

pub returns-else-reply-eq1 : goal.returns-else-reply-eq1
returns-else-reply-eq1 c =
    let r = c.args.reply in
    let l : length r.bytes ≡ 96 = search rules in
    ne_eqb r.len 1 c.if-reply-eq1.false ∙ no_ack r.len r.bytes (omega arith) c.if-reply-eq1.false
