-- `list_write::front::front_of` meets its contract.
use mathlib.Core.Path.{refl, ap, ◌∙◌}
use Prim.Native.Nat.{◌/◌, ◌%◌}
use lib.ListN.{get_or}
use Rattle.meter_identity.specs.Identity.{digits_of_value}
use Rattle.list_write.specs.Record.{record_for}
use Rattle.list_write.specs.ProgramRecord.{front_of_value}
use Rattle.meter_identity.proofs.IdentityLaws.{list_same}
use Rattle.list_write.proofs.front.front_of.Goals as goal

pub returns : goal.returns
unfolding front_of_value record_for digits_of_value
returns c =
    let own = c.own_baud.ensures in
    let e = c.to_be_bytes.ensures in
    list_same refl (list_same refl
    (list_same (ap (λ l. get_or l 0 0) e ∙ ap (λ b. b / 0x1000000 % 256) own)
    (list_same (ap (λ l. get_or l 1 0) e ∙ ap (λ b. b / 0x10000 % 256) own)
    (list_same (ap (λ l. get_or l 2 0) e ∙ ap (λ b. b / 0x100 % 256) own)
    (list_same (ap (λ l. get_or l 3 0) e ∙ ap (λ b. b % 256) own)
    (list_same refl
    (list_same c.digit.ensures
    (list_same c.digit-2.ensures
    (list_same c.digit-3.ensures
    (list_same c.digit-4.ensures
    (list_same c.digit-5.ensures
    (list_same c.digit-6.ensures
    (list_same c.digit-7.ensures
    (list_same c.digit-8.ensures refl))))))))))))))
