use mathlib.Core.Path.{sym, ap, ◌∙◌}
use Prim.Native.Nat.{◌+◌, ◌/◌}
use Rattle.meter_identity.proofs.IdentityLaws.{id_little}
use Rattle.numbers.specs.Values.{bcd}
use Rattle.meter_identity.specs.Identity.{id_bytes_value}
use Rattle.meter_data.specs.UserData.{fixed_data_value}
use Rattle.meter_data.proofs.PutLaws.{both, put_as, behind}
use Rattle.meter_data.proofs.fixed_data.Goals as goal

pub returns : goal.returns
unfolding fixed_data_value bcd id_bytes_value
returns c =
    let m = c.args.m in
    rw (sym c.from-seed.ensures)
    (behind c.new-d.ensures.bytes
    (both (put_as (c.id_bytes.ensures ∙ sym (id_little m.built.id)) c.put.ensures.bytes)
    (both c.put-2.ensures.bytes
    (both (put_as (c.bcd4.ensures ∙ ap (λ s. bcd 4 (12345 + c.from-seed.result + s / 60)) c.whole_u64.ensures) c.put-3.ensures.bytes)
    (put_as c.bcd4-2.ensures c.put-4.ensures.bytes)))))
