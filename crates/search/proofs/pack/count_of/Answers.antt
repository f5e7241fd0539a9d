use mathlib.Core.Path.{◌∙◌}
use Rattle.search.proofs.PackLaws.{counted}
use Rattle.search.proofs.pack.count_of.Goals as goal

pub returns : goal.returns
returns c = c.max.ensures ∙ counted c.args.front
