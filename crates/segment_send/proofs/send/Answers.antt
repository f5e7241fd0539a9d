use mathlib.Core.Path.{refl, ap, ◌∙◌}
use mathlib.Core.Bool.{not}
use native.Mathlib.Omega.{arith}
use Rattle.std.proofs.lemmas.Result.{err_from_is_err_and}
use Rattle.frame.specs.Frame.{due, parse}
use Rattle.segment_send.proofs.DoneLaws.{sent_as, sent_none, sent_fits, sent_full}
use Rattle.segment_send.proofs.SentLaws.{send_long, send_clock, send_settles}
use Rattle.segment_image.specs.Image.{decode_image}
use Rattle.segment_send.proofs.send.Goals as goal

pub returns-then-piece-gt-PIECE : goal.returns-then-piece-gt-PIECE
returns-then-piece-gt-PIECE c =
    let a = c.args in
    sent_none 13 (omega arith) (send_long a.piece.now a.clock (decode_image a.image.now) c.if-piece-gt-PIECE.true)

pub returns-then-not-good_clock : goal.returns-then-not-good_clock
returns-then-not-good_clock c =
    let a = c.args in
    sent_none 14 (omega arith) (send_clock a.piece.now a.clock (decode_image a.image.now) c.if-piece-gt-PIECE.false c.good_clock.ensures (ap not c.if-not-good_clock.true))

pub returns-in_err-handle_piece : goal.returns-in_err-handle_piece
returns-in_err-handle_piece c =
    let a = c.args in
    let p = err_from_is_err_and c.from_residual.result c.from_residual.ensures.1 in
    rw (p.1, p.2)
    (sent_as (send_settles a.piece.now a.clock (decode_image a.image.now) c.if-piece-gt-PIECE.false c.good_clock.ensures (ap not c.if-not-good_clock.false) refl) (sent_full c.in_err-handle_piece.ensures))

pub returns : goal.returns
returns c =
    let a = c.args in
    sent_as (send_settles a.piece.now a.clock (decode_image a.image.now) c.if-piece-gt-PIECE.false c.good_clock.ensures (ap not c.if-not-good_clock.false) refl) (sent_fits c.in_ok-handle_piece.ensures (c.due_of.ensures ∙ ap (λ x. due (parse x)) c.waiting-waits.ensures))
