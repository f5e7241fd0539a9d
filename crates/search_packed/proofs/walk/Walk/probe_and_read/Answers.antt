use Rattle.std.proofs.Common.{refl, rules}
use Rattle.search_packed.proofs.PackedSteps.{asked_stop, asked_none, asked_one, asked_many}
use Rattle.search_packed.proofs.walk.Walk.probe_and_read.Goals as goal

pub returns-then-self : goal.returns-then-self
returns-then-self c =
    let q = c.args.self.now in
    asked_stop c.args.low c.args.high q.keys q.marks q.allowance q.entries q.found q.probes q.spent refl c.if-self.true

pub returns-in-0 : goal.returns-in-0
returns-in-0 c =
    let q = c.args.self.now in
    asked_none c.args.low c.args.high q.keys q.marks q.allowance q.entries q.found q.probes q.spent refl c.if-self.false _ _ c.send_mask.ensures.0 c.send_mask.ensures.1 c.in-0.is

pub returns-in-1 : goal.returns-in-1
returns-in-1 c =
    let q = c.args.self.now in
    asked_one c.args.low c.args.high q.keys q.marks q.allowance q.entries q.found q.probes q.spent refl c.if-self.false _ _ c.send_mask.ensures.0 c.send_mask.ensures.1 c.in-1.is
    _ _ _ c.from.ensures c.read_selected-entry.ensures.1 c.read_selected-entry.ensures.0 _ c.push.ensures

pub returns-in_default : goal.returns-in_default
returns-in_default c =
    let q = c.args.self.now in
    asked_many c.args.low c.args.high q.keys q.marks q.allowance q.entries q.found q.probes q.spent refl c.if-self.false _ _ c.send_mask.ensures.0 c.send_mask.ensures.1 (search rules) (search rules)
