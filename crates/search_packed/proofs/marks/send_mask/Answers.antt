use Rattle.std.proofs.Common.{◌+◌, ◌%◌, ◌≡◌, get_or, length, ap, ◌∙◌, arith, rules}
use Rattle.laws.proofs.Lists.{bit_from}
use Rattle.list_open.specs.Opening.{capacity}
use Rattle.laws.specs.Words.{bit_if}
use Rattle.search_packed.specs.ProgramMarks.{marked, masked, acked}
use Rattle.search_packed.proofs.MarkSweep.{sweep_none, sweep_more, sweep_all}
use Rattle.search_packed.proofs.marks.send_mask.Goals as goal

pub loop-i-init : goal.loop-i-init
loop-i-init c = (omega arith, c.requires, sweep_none)

pub loop-i-preserved : goal.loop-i-preserved
unfolding masked acked capacity
loop-i-preserved c =
    let e = c.mask_mark-mark.ensures ∙ ap (λ h. marked (get_or c.loop-i.marks c.loop-i.i 0) h) (c.from-offered.ensures ∙ bit_from _ ∙ ap bit_if c.is_between.ensures) in
    let keys : length c.args.keys.now ≡ 64 = search rules in
    let marks : length c.args.marks.now ≡ 64 = search rules in
    (omega arith, c.loop-i.invariant.1, sweep_more 0 0 c.loop-i.invariant.2 (omega arith) (omega arith) e (ap (λ v. c.loop-i.acks + v % 2) e))

pub returns : goal.returns
unfolding capacity
returns c = let r = sweep_all capacity c.loop-i.invariant.2 (omega arith) in (r.0, r.1)
