-- `list_check::tables::find_medium` meets its contract.
use borrow.Author.Rules.{rules}
use mathlib.Core.Path.{ap, ◌∙◌}
use Rattle.std.specs.Prelude.{option_map}
use Rattle.std.specs.Borrow.{Bor}
use Rattle.list_check.specs.declared.tables.Medium.{Medium as Valued}
use Rattle.list_check.specs.Tables.{media}
use Rattle.list_check.specs.ProgramKeys.{row_of}
use Rattle.list_check.specs.declared.tables.Keyed.{Keyed}
use Rattle.list_check.proofs.KeyLaws.{found_medium, row_under}
use Rattle.list_check.proofs.tables.find_medium.Goals as goal

pub returns : goal.returns
unfolding media
returns c = row_under row_of (λ (row : Bor (Keyed Valued)). row.now) _ ∙ ap (option_map row_of) c.row_with.ensures ∙ search (rules, found_medium)
