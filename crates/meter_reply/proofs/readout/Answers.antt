use Rattle.std.proofs.Common.{ap, ◌∙◌}
use Rattle.meter.specs.View.{plain_meter}
use Rattle.meter_reply.proofs.ReadoutLaws.{response_long}
use Rattle.meter_reply.specs.Response.{damaged, readout}
use Rattle.meter_reply.proofs.readout.Goals as goal

pub response-requires : goal.response-requires
response-requires c = tt

pub damage-requires : goal.damage-requires
damage-requires c = let a = c.args in rw c.response.ensures (response_long a.elapsed a.clock (plain_meter a.m))

pub returns : goal.returns
unfolding readout
returns c = c.damage.ensures ∙ ap (damaged c.args.m.built.fault) c.response.ensures
