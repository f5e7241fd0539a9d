use Rattle.std.proofs.Common.{arith, rules}
use Rattle.list_open.specs.Opening.{capacity}
use Rattle.search_packed.proofs.PackedPush.{push_room, push_full}
use Rattle.search_packed.proofs.walk.Walk.push.Goals as goal

pub invariant_of-self : goal.invariant_of-self
unfolding capacity
invariant_of-self c = record { fits = omega arith }

pub returns-then-self-lt-METERS : goal.returns-then-self-lt-METERS
unfolding capacity
returns-then-self-lt-METERS c =
    let q = c.args.self.now in
    push_room q.keys q.marks q.allowance q.entries q.found q.probes q.spent c.args.entry (search rules) c.if-self-lt-METERS.true

pub returns-else-self-lt-METERS : goal.returns-else-self-lt-METERS
unfolding capacity
returns-else-self-lt-METERS c =
    let q = c.args.self.now in
    push_full q.keys q.marks q.allowance q.entries q.found q.probes q.spent c.args.entry (search rules) c.if-self-lt-METERS.false
