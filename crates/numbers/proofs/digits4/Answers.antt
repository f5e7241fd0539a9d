-- `numbers::digits4` meets its contract.
use native.Mathlib.Omega.{arith}
use mathlib.Core.Path.{ap}
use mathlib.Core.List.{◌++◌}
use Prim.Native.Nat.{◌/◌}
use Rattle.numbers.proofs.ValueLaws.{bcd_low}
use Rattle.numbers.specs.Values.{bcd}
use Rattle.numbers.proofs.digits4.Goals as goal

pub returns : goal.returns
unfolding bcd
returns c =
    let x = c.args.x in
    rw (c.digits2.ensures, c.digits2-2.ensures, c.above2-h.ensures) (ap (λ low. low ++ bcd 1 (x / 100)) (bcd_low 1 x (x / 100) (omega arith)))
