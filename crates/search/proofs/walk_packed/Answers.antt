use borrow.Author.Rules.{rules}
use Rattle.list_open.specs.Opening.{capacity}
use Rattle.search_packed.specs.ProgramPacked.{walking}
use Rattle.search.proofs.MadeLaws.{walks}
use Rattle.search.proofs.walk_packed.Goals as goal

pub returns : goal.returns
unfolding walking capacity
returns c =
    let a = c.args in
    walks a.image.now c.unmark_all.new.image a.allowance _ _ c.packed_of-packed.ensures.keys c.packed_of-packed.ensures.marks c.packed_of-packed.ensures.bounded
    c.walk_all-walk.ensures c.unmark_all.ensures (search rules)
