use Rattle.list_write.specs.View.{held}
use Rattle.segment_export.proofs.RecordsLaws.{Writing}
use Rattle.segment_export.proofs.write_records.Given as goal

abbrev pub invariant-loop-i : goal.invariant-loop-i
invariant-loop-i l = Writing l.image l.i (held l.records)
