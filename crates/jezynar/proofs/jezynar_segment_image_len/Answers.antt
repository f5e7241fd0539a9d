use mathlib.Core.Path.{refl}
use Rattle.list_open.specs.Opening.{capacity}
use Rattle.jezynar.proofs.jezynar_segment_image_len.Goals as goal

pub returns : goal.returns
unfolding capacity
returns c = refl
