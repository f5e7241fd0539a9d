use mathlib.Core.Path.{sym, ap, ◌∙◌}
use Prim.Native.Nat.{◌+◌, ◌%◌}
use Rattle.std.proofs.Common.{w32}
use Rattle.numbers.proofs.LeBytes.{little_bytes}
use Rattle.numbers.specs.Values.{bcd, little}
use Rattle.meter_data.specs.UserData.{electricity}
use Rattle.meter_data.proofs.PutLaws.{both, value_as}
use Rattle.meter_data.proofs.electricity.Goals as goal

pub returns : goal.returns
unfolding electricity bcd little
returns c =
    let power = c.to_le_bytes.ensures ∙ little_bytes w32 (2300 + c.args.tick % 100) ∙ ap (λ t. little 4 (2300 + t % 100)) (sym c.from-t.ensures) in
    rw (sym c.from-seed.ensures, sym c.from-t.ensures)
    (both (value_as c.bcd6.ensures c.put_record.ensures.bytes)
    (both c.put.ensures.bytes
    (both (value_as c.bcd6-2.ensures c.put_record-2.ensures.bytes)
    (both c.put-2.ensures.bytes
    (both (value_as c.bcd6-3.ensures c.put_record-3.ensures.bytes)
    (both (value_as power c.put_record-4.ensures.bytes)
    (both c.put_record-5.ensures.bytes
    (both c.put-3.ensures.bytes
    (both (value_as c.to_le_bytes-2.ensures c.put_record-6.ensures.bytes)
    (both c.put-4.ensures.bytes
    (both (value_as c.to_le_bytes-3.ensures c.put_record-7.ensures.bytes) c.put_record-8.ensures.bytes)))))))))))
