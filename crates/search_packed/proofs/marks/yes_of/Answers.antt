use Rattle.std.proofs.Common.{◌/◌, ◌%◌, refl, arith}
use lib.Bits.{bit_or, and_le_r}
use Rattle.search_packed.specs.ProgramMarks.{yes_of}
use Rattle.search_packed.proofs.marks.yes_of.Goals as goal

pub returns : goal.returns
unfolding yes_of
returns c = (refl, omega (arith, and_le_r (bit_or (c.args.mark / 16 % 2) (c.args.mark / 4 % 2)) c.args.offered, c.requires))
