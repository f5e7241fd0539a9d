-- `segment_export::write_records` meets its contract.
use native.Mathlib.Omega.{arith}
use Rattle.segment_export.proofs.RecordsLaws.{writing_none, writing_more, writing_all}
use Rattle.segment_export.proofs.write_records.Goals as goal

pub loop-i-init : goal.loop-i-init
loop-i-init c = writing_none _ c.new-records.ensures

pub loop-i-preserved : goal.loop-i-preserved
loop-i-preserved c = writing_more c.loop-i.invariant c.baud_of-bus.result c.meter_at.result (omega arith) c.baud_of-bus.ensures c.meter_at.ensures c.append_meter.ensures

pub returns : goal.returns
returns c = writing_all c.loop-i.invariant (omega arith)
