-- `list_open::meters_of` meets its contract.
use mathlib.Core.Path.{sym, ◌∙◌}
use native.Mathlib.Omega.{arith}
use Rattle.std.proofs.lemmas.Result.{err_from_is_err_and}
use Rattle.list_open.proofs.GivenLaws.{given_layout, given_over, given_refused_record, given_baud, given_meters_all}
use Rattle.list_open.proofs.meters_of.Goals as goal

pub returns-in_err-records : goal.returns-in_err-records
returns-in_err-records c =
    let p = err_from_is_err_and c.from_residual.result c.from_residual.ensures.1 in
    rw (p.1, p.2) (given_layout c.args.list.now c.args.bus c.args.practice _ c.in_err-records.ensures)

pub returns-then-records-gt-METERS : goal.returns-then-records-gt-METERS
returns-then-records-gt-METERS c = given_over c.args.list.now c.args.bus c.args.practice c.in_ok-records.ensures (omega arith)

pub gather-requires : goal.gather-requires
gather-requires c = record { records = c.in_ok-records.records; fits = sym c.in_ok-records.ensures; few = omega arith }

pub returns-in_err-opened : goal.returns-in_err-opened
returns-in_err-opened c =
    let p = err_from_is_err_and c.from_residual-in_err-opened.result c.from_residual-in_err-opened.ensures.1 in
    rw (p.1, p.2) (given_refused_record c.args.list.now c.args.bus c.args.practice c.in_ok-records.ensures (omega arith) c.in_err-opened.ensures)

pub returns-then-is_rate : goal.returns-then-is_rate
returns-then-is_rate c =
    given_meters_all c.args.list.now c.args.bus c.args.practice c.in_ok-records.ensures (omega arith) c.in_ok-opened.ensures (sym c.is_rate.ensures ∙ c.if-is_rate.true)

pub returns-else-is_rate : goal.returns-else-is_rate
returns-else-is_rate c =
    given_baud c.args.list.now c.args.bus c.args.practice c.in_ok-records.ensures (omega arith) c.in_ok-opened.ensures (sym c.is_rate.ensures ∙ c.if-is_rate.false)
