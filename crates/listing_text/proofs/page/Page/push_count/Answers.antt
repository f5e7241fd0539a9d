use native.Mathlib.Omega.{arith}
use Rattle.listing_text.proofs.TextLaws.{number_short, wrote_then}
use Rattle.listing_text.proofs.page.Page.push_count.Goals as goal

pub push_number-requires : goal.push_number-requires
push_number-requires c = let s = number_short c.ranges.count.fits in omega (arith, s, c.push_text.ensures.end)

pub returns-in-Many : goal.returns-in-Many
returns-in-Many c =
    let p = c.push_text.ensures in
    let q = c.push_number.ensures in
    let s = number_short c.ranges.count.fits in
    (rw c.in-Many.is (wrote_then p q (omega (arith, p.end, c.args.self.now.fits))), omega (arith, s, p.end, q.end))
