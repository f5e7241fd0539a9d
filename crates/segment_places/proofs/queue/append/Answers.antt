use mathlib.Core.Path.{◌≡◌, refl, sym, ap, subst, ◌∙◌}
use Rattle.std.specs.Prelude.{Ok}
use Prim.Native.Nat.{◌+◌}
use native.Mathlib.Omega.{arith}
use lib.ListN.{length}
use lib.Seq.{paste}
use Rattle.numbers.specs.Values.{little}
use Rattle.segment_places.specs.ProgramBecomes.{Queues}
use Rattle.segment_places.proofs.PlaceLaws.{queue_short}
use Rattle.segment_places.proofs.QueueLaws.{queue_becomes, queues_not, queues}
use borrow.Author.Rules.{rules}
use Rattle.segment_places.proofs.queue.append.Goals as goal

pub overflow_sub-queued : goal.overflow_sub-queued
overflow_sub-queued c = omega (arith, c.queued_of-queued.ensures, queue_short c.args.image.now)

pub returns-then-queued-more : goal.returns-then-queued-more
returns-then-queued-more c =
    let a = c.args in
    let w : length a.more.now ≡ length a.more.now = refl in
    queues_not (omega (arith, c.queued_of-queued.ensures, w, queue_short a.image.now))

pub overflow_add-queued : goal.overflow_add-queued
overflow_add-queued c = record { fits = omega (arith, c.queued_of-queued.ensures, queue_short c.args.image.now) }

pub put-requires : goal.put-requires
put-requires c =
    let l = c.args.image.now in
    let long : length l ≡ 5974 = search rules in
    omega (arith, c.queued_of-queued.ensures, queue_short l)

pub returns : goal.returns
returns c =
    let q = c.queued_of-queued in
    let a = c.args in
    let l = a.image.now in
    let b = a.more.now in
    let n = length a.more.now in
    let w : length b ≡ n = refl in
    let long : length l ≡ 5974 = search rules in
    subst (Queues b l (Ok tt)) (sym (c.put_two.ensures ∙ ap (λ x. paste x 16 (little 2 (q.result + n)) 2) c.put.ensures))
    (queues (queue_becomes l b q.result n long q.ensures w (omega (arith, q.ensures, queue_short l))))
