use native.Mathlib.Omega.{arith}
use mathlib.Core.Path.{refl}
use Rattle.search.proofs.PackLaws.{mapped_none, mapped_more, mapped_all}
use Rattle.search.proofs.pack.write_records.Goals as goal

pub loop-i-init : goal.loop-i-init
loop-i-init c = record { end = refl; mapped = mapped_none }

pub loop-i-preserved : goal.loop-i-preserved
loop-i-preserved c =
    let inv = c.loop-i.invariant in
    record { end = inv.end; mapped = mapped_more inv.mapped _ (omega arith) (omega arith) c.record_of.ensures }

pub returns : goal.returns
returns c = mapped_all c.loop-i.invariant.mapped (omega arith)
