use mathlib.Core.Path.{sym, ◌∙◌}
use Rattle.meter_identity.proofs.IdentityLaws.{id_little}
use Rattle.std.proofs.Common.{w16}
use Rattle.numbers.proofs.LeBytes.{little_bytes}
use Rattle.numbers.specs.Values.{little}
use Rattle.meter_identity.specs.Identity.{id_bytes_value}
use Rattle.meter_data.specs.UserData.{head}
use Rattle.meter_data.proofs.PutLaws.{both, put_as, behind}
use Rattle.meter_data.proofs.head.Goals as goal

pub returns-clause-items : goal.returns-clause-items
unfolding head little id_bytes_value
returns-clause-items c =
    behind c.new-d.ensures.bytes
    (both (put_as (c.id_bytes.ensures ∙ sym (id_little c.args.m.built.id)) c.put.ensures.bytes)
    (both (put_as (c.to_le_bytes.ensures ∙ little_bytes w16 c.args.m.built.manufacturer) c.put-2.ensures.bytes) c.put-3.ensures.bytes))
