use mathlib.Core.Path.{sym, ◌∙◌}
use Rattle.frame.specs.View.{telegram_of}
use Rattle.segment_telegram.proofs.HandleLaws.{handled_all_lem, handled_queues}
use Rattle.segment_telegram.proofs.handle.Goals as goal

pub returns-then-to_broadcast : goal.returns-then-to_broadcast
returns-then-to_broadcast c =
    let a = c.args in
    handled_all_lem (telegram_of a.frame) a.clock c.sweep-joining.ensures (sym c.if-to_broadcast.true ∙ c.to_broadcast.ensures)

pub queue_reply-requires : goal.queue_reply-requires
queue_reply-requires c = c.sweep-joining.ensures.joins.fits

pub returns-else-to_broadcast : goal.returns-else-to_broadcast
returns-else-to_broadcast c =
    let a = c.args in
    handled_queues (telegram_of a.frame) a.clock c.sweep-joining.ensures (sym c.if-to_broadcast.false ∙ c.to_broadcast.ensures) _ c.queue_reply.ensures
