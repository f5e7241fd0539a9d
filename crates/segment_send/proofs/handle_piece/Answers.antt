use mathlib.Core.Path.{ap}
use Rattle.segment.specs.Plain.{with_input}
use Rattle.segment_image.specs.Image.{decode_image}
use Rattle.segment_send.specs.Steps.{handled_all}
use Rattle.segment_send.proofs.DoneLaws.{comes_as}
use Rattle.segment_send.proofs.SentLaws.{nothing_waits}
use Rattle.segment_send.proofs.handle_piece.Goals as goal

pub returns-then-waiting_of-eq0 : goal.returns-then-waiting_of-eq0
returns-then-waiting_of-eq0 c =
    let a = c.args in
    let s = decode_image a.image.now in
    comes_as (ap (λ x. handled_all a.clock (with_input x s)) (nothing_waits s.input _ a.piece.now c.waiting_of.ensures c.if-waiting_of-eq0.true)) c.handle_all.ensures

pub returns : goal.returns
returns c = c.handle_joined.ensures
