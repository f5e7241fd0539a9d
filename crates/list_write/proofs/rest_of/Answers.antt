-- `list_write::rest_of` meets its contract.
use borrow.Author.Rules.{rules}
use mathlib.Core.Path.{◌≡◌, ap, ap₂, ◌∙◌}
use native.Mathlib.Omega.{arith}
use lib.ListN.{length, take, length-append, length-take}
use Rattle.meter.specs.View.{plain_meter}
use Rattle.list_write.specs.Record.{manufacturer_text, record_for}
use Rattle.list_write.proofs.KeyLaws.{medium_short, fault_short}
use Rattle.list_write.proofs.RestLaws.{rest-is}
use Rattle.list_write.proofs.LetterLaws.{letters_are}
use Rattle.list_write.proofs.rest_of.Goals as goal

pub push_text-requires-2 : goal.push_text-requires-2
push_text-requires-2 c =
    let f : length c.front_of.result ≡ 15 = search rules in
    let l = length-take c.letters-n.result c.capitals_of-capitals.result in
    let k = ap length c.medium_key.ensures in
    let h = medium_short c.args.m.built.medium c.args.m.built.model in
    (omega arith, (omega arith, rw (c.push_text.ensures, c.push.ensures, c.new-rest.ensures) (simp length-append (omega (arith, c.letters-n.ensures.1)))))

pub push_text-requires-3 : goal.push_text-requires-3
push_text-requires-3 c =
    let f : length c.front_of.result ≡ 15 = search rules in
    let l = length-take c.letters-n.result c.capitals_of-capitals.result in
    let k = ap length c.medium_key.ensures in
    let h = medium_short c.args.m.built.medium c.args.m.built.model in
    let j = ap length c.fault_key.ensures in
    let i = fault_short c.args.m.built.fault in
    (omega arith, (omega arith, rw (c.push_text-2.ensures, c.push_text.ensures, c.push.ensures, c.new-rest.ensures) (simp length-append (omega (arith, c.letters-n.ensures.1)))))

pub returns : goal.returns
unfolding record_for
returns c =
    let built = c.args.m.built in
    let f : length c.front_of.result ≡ 15 = search rules in
    let l = length-take c.letters-n.result c.capitals_of-capitals.result in
    let k = ap length c.medium_key.ensures in
    let h = medium_short built.medium built.model in
    let j = ap length c.fault_key.ensures in
    let i = fault_short built.fault in
    let t : take c.letters-n.result c.capitals_of-capitals.result ≡ manufacturer_text built.manufacturer built.medium built.model =
    ap₂ (λ n x. take n x) c.letters-n.ensures.0 c.capitals_of-capitals.ensures ∙ letters_are built.manufacturer built.medium built.model in
    record {
      short = rw (c.push_text-3.ensures, c.push_text-2.ensures, c.push_text.ensures, c.push.ensures, c.new-rest.ensures) (simp length-append (omega (arith, c.letters-n.ensures.1)));
      is =
          rw (c.push_text-3.ensures, c.push_text-2.ensures, c.push_text.ensures, c.push.ensures, c.new-rest.ensures, c.front_of.ensures, t, c.medium_key.ensures, c.fault_key.ensures)
          (rest-is (record_for c.args.bus (plain_meter c.args.m)));
    }
