-- `list::layout::record_in` meets its contract.
use native.Mathlib.Omega.{arith}
use mathlib.Core.Path.{sym, ◌∙◌}
use borrow.Author.Tests.{eqb-true, eqb-false}
use Rattle.std.proofs.lemmas.List.{take_rest}
use Rattle.list.proofs.ReadLaws.{record_short, no_id, no_manufacturer, no_medium, no_fault, not_filled, filled}
use Rattle.list.proofs.layout.record_in.Goals as goal

pub returns-in_default : goal.returns-in_default
returns-in_default c = record_short _ (omega arith)

pub returns-in_err-id : goal.returns-in_err-id
returns-in_err-id c = rw c.from_residual.ensures (no_id _ (omega arith) (take_rest c.args.bytes.now 6) c.in_err-id.ensures)

pub returns-in_err-manufacturer : goal.returns-in_err-manufacturer
returns-in_err-manufacturer c = rw c.from_residual-in_err-manufacturer.ensures (no_manufacturer _ (omega arith) (take_rest c.args.bytes.now 6) c.in_ok-id.ensures c.in_err-manufacturer.ensures)

pub returns-in_err-medium : goal.returns-in_err-medium
returns-in_err-medium c = rw c.from_residual-in_err-medium.ensures (no_medium _ (omega arith) (take_rest c.args.bytes.now 6) c.in_ok-id.ensures c.in_ok-manufacturer.ensures c.in_err-medium.ensures)

pub returns-in_err-fault : goal.returns-in_err-fault
returns-in_err-fault c = rw c.from_residual-in_err-fault.ensures (no_fault _ (omega arith) (take_rest c.args.bytes.now 6) c.in_ok-id.ensures c.in_ok-manufacturer.ensures c.in_ok-medium.ensures c.in_err-fault.ensures)

pub returns-then-not-is_empty : goal.returns-then-not-is_empty
returns-then-not-is_empty c =
    not_filled _ (omega arith) (take_rest c.args.bytes.now 6) c.in_ok-id.ensures c.in_ok-manufacturer.ensures c.in_ok-medium.ensures c.in_ok-fault.ensures (eqb-false _ 0 (sym c.is_empty.ensures ∙ c.if-not-is_empty.true))

pub returns : goal.returns
returns c =
    filled _ (omega arith) (take_rest c.args.bytes.now 6) c.in_ok-id.ensures c.in_ok-manufacturer.ensures c.in_ok-medium.ensures c.in_ok-fault.ensures
    (eqb-true _ 0 (sym c.is_empty.ensures ∙ c.if-not-is_empty.false)) (omega (arith, c.from_be_bytes.ensures))
