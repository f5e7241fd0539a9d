use borrow.Author.Tests.{eq-eqb, ne_eqb}
use Rattle.listing_text.proofs.report.digit.Goals as goal

pub returns-then-d-eq15 : goal.returns-then-d-eq15
returns-then-d-eq15 c = simp (eq-eqb _ _ c.if-d-eq15.true)

pub returns-else-d-eq15 : goal.returns-else-d-eq15
returns-else-d-eq15 c = simp (ne_eqb _ _ c.if-d-eq15.false)
