-- `list_check::tables::find_fault` meets its contract.
use borrow.Author.Rules.{rules}
use mathlib.Core.Path.{ap, ◌∙◌}
use Rattle.std.specs.Prelude.{option_map}
use Rattle.std.specs.Borrow.{Bor}
use Rattle.meter.specs.declared.Fault.{Fault}
use Rattle.list_check.specs.Tables.{faults}
use Rattle.list_check.specs.ProgramKeys.{fault_row_of}
use Rattle.list_check.specs.declared.tables.Keyed.{Keyed}
use Rattle.list_check.proofs.KeyLaws.{found_fault, row_under}
use Rattle.list_check.proofs.tables.find_fault.Goals as goal

pub returns : goal.returns
unfolding faults
returns c = row_under fault_row_of (λ (row : Bor (Keyed Fault)). row.now) _ ∙ ap (option_map fault_row_of) c.row_with.ensures ∙ search (rules, found_fault)
