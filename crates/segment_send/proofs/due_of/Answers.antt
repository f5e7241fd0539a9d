use mathlib.Core.Path.{sym, ap, ◌∙◌}
use Rattle.frame.specs.Frame.{due}
use Rattle.frame.specs.View.{parsed_of}
use Rattle.segment_send.proofs.due_of.Goals as goal

pub returns-in-Complete : goal.returns-in-Complete
returns-in-Complete c = (ap due (ap parsed_of (sym c.in-Complete.is) ∙ c.parse.ensures))

pub returns-in-Incomplete : goal.returns-in-Incomplete
returns-in-Incomplete c = (ap due (ap parsed_of (sym c.in-Incomplete.is) ∙ c.parse.ensures))

pub returns-in-Invalid : goal.returns-in-Invalid
returns-in-Invalid c = (ap due (ap parsed_of (sym c.in-Invalid.is) ∙ c.parse.ensures))
