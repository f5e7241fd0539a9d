use Rattle.std.proofs.Common.{◌≡◌, length, refl, arith, rules}
use Rattle.segment_replies.proofs.OverlayLaws.{overlays_none, overlays_more, overlays_whole}
use Rattle.segment_replies.proofs.overlay.Goals as goal

pub loop-i-init : goal.loop-i-init
loop-i-init c = λ l. overlays_none

pub loop-i-preserved : goal.loop-i-preserved
loop-i-preserved c =
    let room : length c.args.reply.bytes ≡ 96 = search rules in
    λ l. let o = c.loop-i.invariant l in overlays_more o (omega (arith, o.room)) (omega arith) refl

pub returns : goal.returns
returns c = λ l. overlays_whole (c.loop-i.invariant l) (omega arith)
