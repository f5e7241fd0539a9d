use Rattle.std.proofs.Common.{sym, ◌∙◌, eq-eqb, ne_eqb}
use Rattle.search_packed.specs.ProgramMarks.{read_key_value}
use Rattle.search_packed.proofs.marks.read_key.Goals.{else-yes_of-eq1-via-then-yes_of-eq1+else-is_readable, else-yes_of-eq1-via-else-yes_of-eq1}
use Rattle.search_packed.proofs.marks.read_key.Goals as goal

pub returns-then-is_readable : goal.returns-then-is_readable
unfolding read_key_value
returns-then-is_readable c = simp (eq-eqb _ _ (sym c.yes_of.ensures.0 ∙ c.if-yes_of-eq1.true), sym c.is_readable.ensures ∙ c.if-is_readable.true, c.from.ensures)

pub returns-else-yes_of-eq1 : goal.returns-else-yes_of-eq1
unfolding read_key_value
returns-else-yes_of-eq1 c = elim c.else-yes_of-eq1.branch [
  | else-yes_of-eq1-via-then-yes_of-eq1+else-is_readable w ↦ simp (eq-eqb _ _ (sym c.yes_of.ensures.0 ∙ w.if-yes_of-eq1.true), sym w.is_readable.ensures ∙ w.if-is_readable.false)
  | else-yes_of-eq1-via-else-yes_of-eq1 w ↦ simp (ne_eqb _ _ (λ e. w.if-yes_of-eq1.false (c.yes_of.ensures.0 ∙ e)))
]
