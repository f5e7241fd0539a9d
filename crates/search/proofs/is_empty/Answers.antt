use mathlib.Core.Path.{◌∙◌}
use borrow.Author.Tests.{ne_eqb}
use Rattle.segment_image.specs.Image.{decode_image}
use Rattle.search.proofs.SearchCoreLaws.{none_waits, some_waits}
use Rattle.search.proofs.is_empty.Goals as goal

pub returns-then-waiting_of-eq0 : goal.returns-then-waiting_of-eq0
returns-then-waiting_of-eq0 c =
    none_waits (decode_image c.args.image.now) c.waiting_of.result c.waiting_of.ensures c.queued_of.result c.queued_of.ensures c.if-waiting_of-eq0.true

pub returns-else-waiting_of-eq0 : goal.returns-else-waiting_of-eq0
returns-else-waiting_of-eq0 c =
    ne_eqb c.waiting_of.result 0 c.if-waiting_of-eq0.false ∙ some_waits (decode_image c.args.image.now) c.waiting_of.result c.waiting_of.ensures c.if-waiting_of-eq0.false
