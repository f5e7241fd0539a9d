use mathlib.Core.Path.{refl}
use Rattle.segment.specs.View.{plain_of}
use Rattle.segment.proofs.Segment.opened.Goals as goal

pub returns : goal.returns
unfolding plain_of
returns c = refl
