use native.Mathlib.Omega.{arith}
use Rattle.list_open.specs.Opening.{capacity}
use Rattle.listing_text.proofs.TextLaws.{lined_none, lined_more}
use Rattle.listing_text.proofs.page.Page.push_lines.Goals as goal

pub loop-e-init : goal.loop-e-init
loop-e-init c = lined_none

pub loop-e-preserved : goal.loop-e-preserved
unfolding capacity
loop-e-preserved c =
    let inv = c.loop-e.invariant in
    let f = c.args.self.now.fits in
    lined_more _ inv (omega arith) (omega (arith, inv.room, f)) c.push_line.ensures.0 c.push_line.ensures.1
