-- `segment_image::write_image` meets its contract.
use lib.ListN.{length}
use borrow.Author.Rules.{rules}
use Rattle.list_open.specs.Opening.{capacity}
use Rattle.segment_image.proofs.Filled.{zeros_long}
use Rattle.segment_image.proofs.write_image.Goals as goal

pub write_parts-requires : goal.write_parts-requires
unfolding capacity
write_parts-requires c = (search rules, zeros_long (length c.args.image.now) _ (c.fill.ensures.after (search rules)))
