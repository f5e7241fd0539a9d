-- `list_check::check::good_manufacturer` meets its contract.
use mathlib.Core.Path.{sym, ap, ◌∙◌}
use mathlib.Core.List.{List}
use Prim.Native.Nat.{ℕ}
use borrow.Author.Tests.{eqb-true, eqb-false, ne_eqb}
use Rattle.laws.specs.Words.{same_list}
use Rattle.list_check.proofs.CheckLaws.{manufacturer_none, manufacturer_other, manufacturer_three, within_all}
use Rattle.list_check.proofs.KeyLaws.{same_bytes}
use Rattle.list_check.proofs.check.good_manufacturer.Goals as goal

pub returns-then-is_empty : goal.returns-then-is_empty
returns-then-is_empty c =
    manufacturer_none c.args.text.now c.args.medium.now (eqb-true _ 0 (sym c.is_empty.ensures ∙ c.if-is_empty.true))
    (c.eq.ensures ∙ same_bytes c.as_slice.result.now c.args.medium.now ∙ ap (λ (t : List ℕ). same_list t c.args.medium.now) c.as_slice.ensures)

pub returns-then-text-eq3 : goal.returns-then-text-eq3
returns-then-text-eq3 c = manufacturer_three c.args.text.now c.args.medium.now c.if-text-eq3.true (c.all_capitals.ensures ∙ within_all 0x41 0x5A c.args.text.now)

pub returns-else-text-eq3 : goal.returns-else-text-eq3
returns-else-text-eq3 c =
    ne_eqb _ 3 c.if-text-eq3.false
    ∙ manufacturer_other c.args.text.now c.args.medium.now (eqb-false _ 0 (sym c.is_empty.ensures ∙ c.if-is_empty.false)) c.if-text-eq3.false
