-- `list::layout::layout` meets its contract.
use native.Mathlib.Omega.{arith}
use Rattle.list.proofs.CountLaws.{layout_short, layout_version, layout_length, layout_records}
use Rattle.list.proofs.layout.layout.Goals as goal

pub returns-in_default : goal.returns-in_default
returns-in_default c = layout_short _ (omega arith)

pub returns-then-version-ne1 : goal.returns-then-version-ne1
returns-then-version-ne1 c = layout_version _ (omega arith) c.if-version-ne1.true

pub returns-then-from-records : goal.returns-then-from-records
returns-then-from-records c = layout_length _ (omega arith) c.if-version-ne1.false (omega (arith, c.from_be_bytes.ensures, c.from.ensures)) c.if-from-records.true

pub returns : goal.returns
returns c = layout_records _ (omega arith) c.if-version-ne1.false (omega (arith, c.from_be_bytes.ensures, c.from.ensures)) c.if-from-records.false c.count.ensures
