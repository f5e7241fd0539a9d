-- `list::layout::split_record` meets its contract.
use Rattle.list.proofs.ReadLaws.{split_none, split_bad, split_one}
use Rattle.list.proofs.layout.split_record.Goals as goal

pub returns-in_err-record : goal.returns-in_err-record
returns-in_err-record c = rw c.from_residual.ensures (split_none _ c.in_err-record.ensures)

pub returns-in_err-record_in : goal.returns-in_err-record_in
returns-in_err-record_in c = rw c.from_residual-in_err-record_in.ensures (split_bad _ c.in_ok-record.ensures c.in_err-record_in.ensures)

pub returns : goal.returns
returns c = split_one _ c.in_ok-record.ensures c.in_ok-record_in.ensures
