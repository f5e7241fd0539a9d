use native.Mathlib.Omega.{arith}
use Rattle.segment_places.proofs.PlaceLaws.{queue_short}
use Rattle.segment_send.proofs.TelegramLaws.{comes_surely}
use Rattle.segment_send.proofs.telegrams.handle_all.Goals as goal

pub overflow_sub-queued : goal.overflow_sub-queued
overflow_sub-queued c = omega (arith, c.queued_of-queued.ensures, queue_short c.args.image.now)

pub returns-then-bytes-queued : goal.returns-then-bytes-queued
returns-then-bytes-queued c =
    comes_surely _ c.handle_in_turn.ensures (omega (arith, c.if-bytes-queued.true, c.queued_of-queued.ensures, queue_short c.args.image.now))
