use Rattle.std.proofs.Common.{refl, arith}
use Rattle.search_packed.specs.ProgramPacked.{walking, span_of}
use Rattle.search_packed.proofs.walk_all.Goals as goal

pub probe-requires : goal.probe-requires
unfolding span_of
probe-requires c = (refl, omega arith)

pub returns : goal.returns
unfolding walking
returns c = c.probe.ensures
