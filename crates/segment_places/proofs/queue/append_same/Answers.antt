use mathlib.Core.Path.{◌≡◌, sym, ap, subst, ◌∙◌}
use Rattle.std.specs.Prelude.{Ok}
use Prim.Native.Nat.{ℕ, ◌+◌}
use native.Mathlib.Omega.{arith}
use lib.ListN.{length, replicate, length-replicate}
use lib.Seq.{paste}
use Rattle.numbers.specs.Values.{little}
use Rattle.segment_places.specs.ProgramBecomes.{Queues}
use Rattle.segment_places.proofs.PlaceLaws.{queue_short}
use Rattle.segment_places.proofs.QueueLaws.{queue_becomes, queues_not, queues}
use borrow.Author.Rules.{rules}
use Rattle.segment_places.proofs.queue.append_same.Goals as goal

pub overflow_sub-queued : goal.overflow_sub-queued
overflow_sub-queued c = omega (arith, c.queued_of-queued.ensures, queue_short c.args.image.now)

pub returns-then-queued-n : goal.returns-then-queued-n
returns-then-queued-n c =
    let a = c.args in
    let w : length (replicate a.n a.b) ≡ a.n = length-replicate {A = ℕ} a.n a.b in
    queues_not (omega (arith, c.queued_of-queued.ensures, w, queue_short a.image.now))

pub overflow_add-queued : goal.overflow_add-queued
overflow_add-queued c = record { fits = omega (arith, c.queued_of-queued.ensures, queue_short c.args.image.now) }

pub fill-requires : goal.fill-requires
fill-requires c =
    let l = c.args.image.now in
    let long : length l ≡ 5974 = search rules in
    omega (arith, c.queued_of-queued.ensures, queue_short l)

pub returns : goal.returns
returns c =
    let q = c.queued_of-queued in
    let a = c.args in
    let l = a.image.now in
    let b = replicate a.n a.b in
    let n = a.n in
    let w : length b ≡ n = length-replicate {A = ℕ} a.n a.b in
    let long : length l ≡ 5974 = search rules in
    subst (Queues b l (Ok tt)) (sym (c.put_two.ensures ∙ ap (λ x. paste x 16 (little 2 (q.result + n)) 2) c.fill.ensures))
    (queues (queue_becomes l b q.result n long q.ensures w (omega (arith, q.ensures, queue_short l))))
