-- `list_check::check::good_id` meets its contract.
use mathlib.Core.Path.{◌∙◌}
use borrow.Author.Tests.{ne_eqb}
use Rattle.list_check.proofs.CheckLaws.{id_other, id_eight, within_all}
use Rattle.list_check.proofs.check.good_id.Goals as goal

pub returns-then-text-eq8 : goal.returns-then-text-eq8
returns-then-text-eq8 c = id_eight c.args.text.now c.if-text-eq8.true (c.all_digits.ensures ∙ within_all 0x30 0x39 c.args.text.now)

pub returns-else-text-eq8 : goal.returns-else-text-eq8
returns-else-text-eq8 c = ne_eqb _ 8 c.if-text-eq8.false ∙ id_other c.args.text.now c.if-text-eq8.false
