-- `segment_export::append_meter` meets its contract.
use mathlib.Core.Path.{◌≡◌, ap, subst, ◌∙◌}
use mathlib.Core.List.{List}
use Prim.Native.Nat.{ℕ, ◌*◌}
use native.Mathlib.Omega.{arith}
use lib.ListN.{length, take}
use lib.Seq.{take_all}
use Rattle.list.specs.Written.{write_rest}
use Rattle.list_open.specs.Opening.{most_meters}
use Rattle.list_write.specs.Record.{record_for}
use Rattle.list_write.specs.ProgramRecord.{counted, Appends}
use Rattle.list_write.specs.View.{held}
use Rattle.meter.specs.View.{plain_meter}
use Rattle.segment_export.proofs.append_meter.Goals as goal

pub returns : goal.returns
returns c =
    let a = c.args in
    let w = c.rest_of-rest.ensures in
    let r = write_rest (record_for a.bus (plain_meter a.m)) in
    let e : take 45 c.as_slice.result.now ≡ r = ap (take 45) c.as_slice.ensures.is ∙ take_all 45 (held c.rest_of-rest.result) w.short ∙ w.is in
    record {
      short = omega (arith, ap length w.is, w.short);
      appends = subst (λ (x : List ℕ). Appends (46 * most_meters) (counted x) (held a.records.now) (held c.push_record.new.self)) e c.push_record.ensures;
    }
