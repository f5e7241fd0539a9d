use mathlib.Core.Path.{ap, ◌∙◌}
use Rattle.time_seconds.specs.Seconds.{elapsed_of_value}
use Rattle.segment_telegram.proofs.sweep.elapsed_of.Goals as goal

pub returns : goal.returns
returns c = c.elapsed.ensures ∙ ap (elapsed_of_value c.args.clock.now) c.origin_of.ensures
