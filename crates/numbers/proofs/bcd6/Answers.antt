-- `numbers::bcd6` meets its contract.
use native.Mathlib.Omega.{arith}
use mathlib.Core.Path.{sym, ◌∙◌}
use Rattle.numbers.proofs.ValueLaws.{bcd_add, bcd_low}
use Rattle.numbers.specs.Values.{bcd}
use Rattle.numbers.proofs.bcd6.Goals as goal

pub returns : goal.returns
unfolding bcd
returns c =
    let v = c.args.v in
    let v8 = c.above8.result in
    let v12 = c.above12.result in
    let high = c.digits4.ensures ∙ bcd_low 2 v8 v12 (omega arith) in
    rw (c.bcd4.ensures, high, c.above8.ensures) (sym (bcd_add 4 2 v))
