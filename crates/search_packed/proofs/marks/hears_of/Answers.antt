use Rattle.std.proofs.Common.{◌/◌, ◌%◌, refl, arith}
use lib.Bits.{bit_and, and_le_r, xor_lt}
use Rattle.search_packed.specs.ProgramMarks.{hears_of_value}
use Rattle.search_packed.proofs.marks.hears_of.Goals as goal

pub returns : goal.returns
unfolding hears_of_value
returns c = (refl, omega (arith, xor_lt 1 (c.args.mark / 4 % 2) (bit_and (c.args.mark / 32 % 2) c.args.offered) (omega arith) (omega (arith, and_le_r (c.args.mark / 32 % 2) c.args.offered, c.requires))))
