use mathlib.Core.Path.{sym, ◌∙◌}
use Rattle.meter_identity.proofs.IdentityLaws.{id_little}
use Prim.Native.Nat.{◌+◌, ◌*◌, ◌/◌, ◌%◌, ◌^◌}
use native.Mathlib.Omega.{arith}
use Rattle.std.proofs.Common.{w32}
use Rattle.numbers.proofs.LeBytes.{little_bytes, little_wrapped}
use Rattle.numbers.specs.Values.{little}
use Rattle.meter_identity.specs.Identity.{id_bytes_value}
use Rattle.time_dates.specs.Dates.{type_f_value, type_g_value}
use Rattle.meter_data.specs.UserData.{heat_first_value, clock_f}
use Rattle.meter_data.proofs.PutLaws.{both, value_as}
use Rattle.meter_data.proofs.heat_first.Goals as goal

pub returns : goal.returns
unfolding heat_first_value clock_f little type_f_value type_g_value id_bytes_value
returns c =
    let t = c.args.tick in
    let seed = c.args.m.built.seed in
    let energy = c.to_le_bytes.ensures ∙ little_wrapped w32 ((123456 + t / 10 + seed) % 2 ^ 32) (123456 + seed + t / 10) (omega arith) in
    let volume = c.to_le_bytes-2.ensures ∙ little_wrapped w32 ((456789 + t / 4 + seed * 3 % 2 ^ 32) % 2 ^ 32) (456789 + seed * 3 + t / 4) (omega arith) in
    both (value_as energy c.put_record.ensures.bytes)
    (both (value_as volume c.put_record-2.ensures.bytes)
    (both (value_as (c.to_le_bytes-3.ensures ∙ little_bytes w32 (12345 + t % 50)) c.put_record-3.ensures.bytes)
    (both (value_as c.to_le_bytes-4.ensures c.put_record-4.ensures.bytes)
    (both (value_as c.to_le_bytes-5.ensures c.put_record-5.ensures.bytes)
    (both (value_as c.to_le_bytes-6.ensures c.put_record-6.ensures.bytes)
    (both (value_as c.to_le_bytes-7.ensures c.put_record-7.ensures.bytes)
    (both (value_as c.time_of.ensures c.put_record-8.ensures.bytes)
    (both (value_as c.to_le_bytes-8.ensures c.put_record-9.ensures.bytes)
    (both (value_as c.type_g.ensures c.put_record-10.ensures.bytes)
    (both c.put_record-11.ensures.bytes
    (both (value_as (c.id_bytes.ensures ∙ sym (id_little c.args.m.built.id)) c.put_record-12.ensures.bytes) c.put.ensures.bytes)))))))))))
