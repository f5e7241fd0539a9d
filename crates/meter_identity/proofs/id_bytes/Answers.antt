-- `meter_identity::id_bytes` meets its contract.
use mathlib.Core.Path.{sym, ◌∙◌}
use Rattle.numbers.proofs.ValueLaws.{little_four}
use Rattle.meter_identity.proofs.id_bytes.Goals as goal

pub returns : goal.returns
returns c = c.to_le_bytes.ensures ∙ sym (little_four c.args.id)
