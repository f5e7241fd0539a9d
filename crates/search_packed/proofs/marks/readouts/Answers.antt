use Rattle.std.proofs.Common.{le-ltb, lt-ltb, eq-eqb, ne_eqb}
use Rattle.search_packed.specs.ProgramMarks.{readouts_in}
use Rattle.search_packed.proofs.marks.readouts.Goals as goal

pub returns-then-mark-eq0 : goal.returns-then-mark-eq0
unfolding readouts_in
returns-then-mark-eq0 c = simp (eq-eqb _ _ c.if-mark-eq0.true)

pub returns-then-n-lt3 : goal.returns-then-n-lt3
unfolding readouts_in
returns-then-n-lt3 c = simp (ne_eqb _ _ c.if-mark-eq0.false, lt-ltb _ _ c.if-n-lt3.true)

pub returns-else-n-lt3 : goal.returns-else-n-lt3
unfolding readouts_in
returns-else-n-lt3 c = simp (ne_eqb _ _ c.if-mark-eq0.false, le-ltb _ _ c.if-n-lt3.false)
