use Rattle.std.proofs.Common.{◌≡◌, length, arith, rules}
use Rattle.list_open.specs.Opening.{capacity}
use Rattle.search_packed.specs.ProgramMarks.{read_by}
use Rattle.search_packed.proofs.MarkSweep.{sweep_none, sweep_more, sweep_all}
use Rattle.search_packed.proofs.marks.read_selected.Goals as goal

pub loop-i-init : goal.loop-i-init
loop-i-init c = sweep_none

pub loop-i-preserved : goal.loop-i-preserved
unfolding read_by capacity
loop-i-preserved c =
    let keys : length c.args.keys.now ≡ 64 = search rules in
    let marks : length c.args.marks.now ≡ 64 = search rules in
    sweep_more 0 0 c.loop-i.invariant (omega arith) (omega arith) c.read_mark.ensures c.read_key-id.ensures

pub returns : goal.returns
unfolding capacity
returns c = let r = sweep_all capacity c.loop-i.invariant (omega arith) in (r.0, r.1)
