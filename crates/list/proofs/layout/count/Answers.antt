-- `list::layout::count` meets its contract.
use Rattle.std.proofs.lemmas.Result.{err_from_is_err_and}
use Rattle.list.proofs.ReadLaws.{reads_one, reads_end, reads_bad, step_shorter}
use Rattle.list.proofs.CountLaws.{counted_none, counted_more, counted_bad, counted_end}
use Rattle.list.proofs.layout.count.Goals as goal

pub loop-count-init : goal.loop-count-init
loop-count-init c = counted_none _

pub returns-in_err-next : goal.returns-in_err-next
returns-in_err-next c =
    let p = err_from_is_err_and c.from_residual.result c.from_residual.ensures.1 in
    let b = reads_bad c.in_err-next.ensures in
    rw (p.1, p.2, b.1) (counted_bad c.loop-count.invariant b.0)

pub loop-count-smaller : goal.loop-count-smaller
loop-count-smaller c = let h = rw c.in-Some.is at c.in_ok-next.ensures in step_shorter _ (reads_one h)

pub loop-count-preserved : goal.loop-count-preserved
loop-count-preserved c = let h = rw c.in-Some.is at c.in_ok-next.ensures in counted_more c.loop-count.invariant (reads_one h)

pub returns : goal.returns
returns c = let h = rw c.in_default.is at c.in_ok-next.ensures in counted_end c.loop-count.invariant (reads_end h)
