use Rattle.search_packed.specs.ProgramMarks.{marked}
use Rattle.search_packed.proofs.marks.mask_mark.Goals as goal

pub returns : goal.returns
unfolding marked
returns c = simp (c.hears_of-hears.ensures.0, c.yes_of-yes.ensures.0)
