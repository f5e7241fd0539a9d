-- `list_check::check::check` meets its contract.
use mathlib.Core.Path.{sym, ap, ◌∙◌}
use Rattle.std.specs.Prelude.{option_map}
use Rattle.std.specs.Borrow.{Bor}
use native.Mathlib.Omega.{arith}
use Rattle.std.proofs.lemmas.Result.{err_from_is_err_and}
use Rattle.list.specs.ProgramReading.{listed_of}
use Rattle.list_check.specs.ProgramKeys.{row_of, fault_row_of}
use Rattle.list_check.specs.declared.tables.Keyed.{Keyed}
use Rattle.list_check.specs.declared.tables.Medium.{Medium as Valued}
use Rattle.meter.specs.declared.Fault.{Fault}
use Rattle.list_check.proofs.KeyLaws.{blamed}
use Rattle.list_check.proofs.VerdictLaws.{gives_primary, gives_id, gives_manufacturer, gives_medium, gives_baud, gives_fault, gives_values}
use Rattle.list_check.proofs.check.check.Goals as goal

pub returns-then-listed-gt250 : goal.returns-then-listed-gt250
returns-then-listed-gt250 c = gives_primary (listed_of c.args.listed) (omega arith)

pub returns-then-not-good_id : goal.returns-then-not-good_id
returns-then-not-good_id c = gives_id (listed_of c.args.listed) (omega arith) (sym c.good_id.ensures ∙ c.if-not-good_id.true)

pub returns-then-not-good_manufacturer : goal.returns-then-not-good_manufacturer
returns-then-not-good_manufacturer c =
    gives_manufacturer (listed_of c.args.listed) (omega arith) (sym c.good_id.ensures ∙ c.if-not-good_id.false) (sym c.good_manufacturer.ensures ∙ c.if-not-good_manufacturer.true)

pub returns-in_err-medium : goal.returns-in_err-medium
returns-in_err-medium c =
    let p = err_from_is_err_and c.from_residual.result c.from_residual.ensures.1 in
    let o = c.in_err-medium.ensures in
    rw (p.1, p.2, blamed o.ok_part o.value)
    (gives_medium (listed_of c.args.listed) (omega arith) (sym c.good_id.ensures ∙ c.if-not-good_id.false) (sym c.good_manufacturer.ensures ∙ c.if-not-good_manufacturer.false)
    (ap (option_map (λ (row : Bor (Keyed Valued)). row_of row.now)) (sym o.ok_part) ∙ c.find_medium.ensures))

pub returns-in_err-baud : goal.returns-in_err-baud
returns-in_err-baud c =
    let p = err_from_is_err_and c.from_residual-in_err-baud.result c.from_residual-in_err-baud.ensures.1 in
    let o = c.in_ok-medium.ensures in
    rw (p.1, p.2)
    (gives_baud (listed_of c.args.listed) (omega arith) (sym c.good_id.ensures ∙ c.if-not-good_id.false) (sym c.good_manufacturer.ensures ∙ c.if-not-good_manufacturer.false)
    (ap (option_map (λ (row : Bor (Keyed Valued)). row_of row.now)) (sym o.ok_part) ∙ c.find_medium.ensures) c.in_err-baud.ensures)

pub returns-in_err-fault : goal.returns-in_err-fault
returns-in_err-fault c =
    let p = err_from_is_err_and c.from_residual-in_err-fault.result c.from_residual-in_err-fault.ensures.1 in
    let o = c.in_ok-medium.ensures in
    let k = c.in_err-fault.ensures in
    rw (p.1, p.2, blamed k.ok_part k.value)
    (gives_fault (listed_of c.args.listed) (omega arith) (sym c.good_id.ensures ∙ c.if-not-good_id.false) (sym c.good_manufacturer.ensures ∙ c.if-not-good_manufacturer.false)
    (ap (option_map (λ (row : Bor (Keyed Valued)). row_of row.now)) (sym o.ok_part) ∙ c.find_medium.ensures) c.in_ok-baud.ensures (ap (option_map (λ (row : Bor (Keyed Fault)). fault_row_of row.now)) (sym k.ok_part) ∙ c.find_fault.ensures))

pub digits_in-requires : goal.digits_in-requires
digits_in-requires c = (omega arith, (sym c.good_id.ensures ∙ c.if-not-good_id.false))

pub digits_in-requires-2 : goal.digits_in-requires-2
digits_in-requires-2 c = (omega arith, (sym c.good_id.ensures ∙ c.if-not-good_id.false))

pub returns : goal.returns
returns c =
    let o = c.in_ok-medium.ensures in
    gives_values (listed_of c.args.listed) (omega arith) (sym c.good_id.ensures ∙ c.if-not-good_id.false) (sym c.good_manufacturer.ensures ∙ c.if-not-good_manufacturer.false)
    (ap (option_map (λ (row : Bor (Keyed Valued)). row_of row.now)) (sym o.ok_part) ∙ c.find_medium.ensures) c.in_ok-baud.ensures
    (ap (option_map (λ (row : Bor (Keyed Fault)). fault_row_of row.now)) (sym c.in_ok-fault.ensures.ok_part) ∙ c.find_fault.ensures) c.digits_in.ensures c.digits_in-2.ensures c.manufacturer_code.ensures
