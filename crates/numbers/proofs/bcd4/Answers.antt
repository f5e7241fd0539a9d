-- `numbers::bcd4` meets its contract.
use native.Mathlib.Omega.{arith}
use mathlib.Core.Path.{sym, ◌∙◌}
use Rattle.numbers.proofs.ValueLaws.{bcd_add, bcd_low}
use Rattle.numbers.specs.Values.{bcd}
use Rattle.numbers.proofs.bcd4.Goals as goal

pub returns : goal.returns
unfolding bcd
returns c =
    let v = c.args.v in
    let v4 = c.above4-v4.result in
    let v8 = c.above8.result in
    let low = c.digits4.ensures ∙ bcd_low 2 v v4 (omega arith) in
    let high = c.digits4-2.ensures ∙ bcd_low 2 v4 v8 (omega arith) in
    rw (low, high, c.above4-v4.ensures) (sym (bcd_add 2 2 v))
