use Rattle.std.proofs.Common.{eq-eqb, ne_eqb}
use Rattle.search_packed.specs.ProgramMarks.{readable}
use Rattle.search_packed.proofs.marks.is_readable.Goals as goal

pub returns-then-mark-eq0-2 : goal.returns-then-mark-eq0-2
unfolding readable
returns-then-mark-eq0-2 c = simp (eq-eqb _ _ c.if-mark-eq0.true, eq-eqb _ _ c.if-mark-eq0-2.true)

pub returns-else-mark-eq0-2 : goal.returns-else-mark-eq0-2
unfolding readable
returns-else-mark-eq0-2 c = simp (eq-eqb _ _ c.if-mark-eq0.true, ne_eqb _ _ c.if-mark-eq0-2.false)

pub returns-else-mark-eq0 : goal.returns-else-mark-eq0
unfolding readable
returns-else-mark-eq0 c = simp (ne_eqb _ _ c.if-mark-eq0.false)
