use Rattle.search.proofs.PackLaws.{unmark_here, unmark_away}
use Rattle.search.proofs.pack.unmark.Goals as goal

pub returns-then-m-bus : goal.returns-then-m-bus
returns-then-m-bus c = unmark_away c.args.bus c.args.mark c.args.m c.if-m-bus.true

pub returns : goal.returns
returns c = unmark_here c.args.bus c.args.mark c.args.m _ _ c.if-m-bus.false c.last_in.ensures c.part_in.ensures
