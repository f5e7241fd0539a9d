-- `meter_concern::Seeking::seeks` meets its contract.
use mathlib.Core.Path.{◌≡◌, refl, ap, ◌∙◌}
use mathlib.Core.Bool.{◌&&◌, ◌||◌}
use Prim.Native.Nat.{◌/◌, ◌%◌}
use native.Mathlib.Omega.{arith}
use lib.Dec.{eqb}
use lib.Bits.{bit_and}
use Rattle.meter_concern.specs.ProgramSeeking.{first_bytes, sought_by_value}
use Rattle.meter_concern.proofs.Seeking.seeks.Goals as goal

pub returns-clause-by : goal.returns-clause-by
unfolding sought_by_value
returns-clause-by c = refl

pub returns-clause-test : goal.returns-clause-test
unfolding sought_by_value
returns-clause-test c test k =
    let a = c.args in
    let id = a.word / 256 % 4294967296 in
    let more = a.word / 1099511627776 in
    let w : a.word ≡ first_bytes (a.word % 256) id more = omega arith in
    ap (λ n. (a.selected && a.self.selected) || eqb (bit_and n a.self.mask) a.self.want) w ∙ k.are (a.word % 256) a.selected id more (omega arith) (omega arith)
