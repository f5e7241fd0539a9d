use Rattle.std.proofs.Common.{sym, ◌∙◌, eq-eqb, ne_eqb}
use Rattle.search_packed.specs.ProgramMarks.{read_mark_value}
use Rattle.search_packed.proofs.marks.read_mark.Goals as goal

pub returns-then-yes-eq0 : goal.returns-then-yes-eq0
unfolding read_mark_value
returns-then-yes-eq0 c = simp (eq-eqb _ _ (sym c.yes_of-yes.ensures.0 ∙ c.if-yes-eq0.true), c.hears_of-hears.ensures.0)

pub returns : goal.returns
unfolding read_mark_value
returns c =
    simp (ne_eqb _ _ (λ e. c.if-yes-eq0.false (c.yes_of-yes.ensures.0 ∙ e)), c.hears_of-hears.ensures.0, c.readouts.ensures)
