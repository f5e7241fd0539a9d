-- `list_open::opening::gather` meets its contract.
use Rattle.std.proofs.lemmas.Result.{err_from_is_err_and}
use Rattle.list.proofs.ReadLaws.{reads_one, reads_end, reads_bad, step_shorter}
use Rattle.list_open.proofs.GatherLaws.{gathered_none, gathered_bad, gathered_end, gathered_room, gathered_fails, gathered_more}
use Rattle.list_open.proofs.opening.gather.Goals as goal

pub loop-listed-init : goal.loop-listed-init
loop-listed-init c = gathered_none c.args.bus c.args.practice c.requires c.new-reader.ensures c.begin-opened.ensures

pub returns-in_err-listed : goal.returns-in_err-listed
returns-in_err-listed c = absurd (gathered_bad c.loop-listed.invariant (reads_bad c.in_err-listed.ensures).0)

pub returns-in_err-values : goal.returns-in_err-values
returns-in_err-values c =
    let p = err_from_is_err_and c.from_residual-in_err-values.result c.from_residual-in_err-values.ensures.1 in
    let h = rw c.in-Some.is at c.in_ok-listed.ensures in
    rw (p.1, p.2) (gathered_fails c.loop-listed.invariant (reads_one h) c.in_err-values.ensures)

pub bounds-opened-opened : goal.bounds-opened-opened
bounds-opened-opened c = let h = rw c.in-Some.is at c.in_ok-listed.ensures in gathered_room c.loop-listed.invariant (reads_one h)

pub loop-listed-smaller : goal.loop-listed-smaller
loop-listed-smaller c = let h = rw c.in-Some.is at c.in_ok-listed.ensures in step_shorter _ (reads_one h)

pub loop-listed-preserved : goal.loop-listed-preserved
loop-listed-preserved c =
    let h = rw c.in-Some.is at c.in_ok-listed.ensures in
    gathered_more c.loop-listed.invariant (reads_one h) c.in_ok-values.ensures c.fresh.ensures

pub returns : goal.returns
returns c = let h = rw c.in_default.is at c.in_ok-listed.ensures in gathered_end c.loop-listed.invariant (reads_end h)
