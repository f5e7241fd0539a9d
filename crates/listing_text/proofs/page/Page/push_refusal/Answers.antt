use native.Mathlib.Omega.{arith}
use Rattle.list_open.specs.Opening.{capacity}
use Rattle.listing_text.specs.Text.{refusal_of}
use Rattle.listing_text.proofs.TextLaws.{number_short, wrote_then, wrote_printed}
use Rattle.listing_text.proofs.page.Page.push_refusal.Goals as goal

pub push_number-requires : goal.push_number-requires
unfolding capacity
push_number-requires c = let s = number_short c.ranges.n.fits in omega (arith, s, c.push_text.ensures.end)

pub push_text-requires-2 : goal.push_text-requires-2
unfolding capacity
push_text-requires-2 c = let s = number_short c.ranges.n.fits in omega (arith, s, c.push_text.ensures.end, c.push_number.ensures.end)

pub returns : goal.returns
unfolding capacity refusal_of
returns c =
    let p = c.push_text.ensures in
    let q = c.push_number.ensures in
    let f = c.args.self.now.fits in
    let s = number_short c.ranges.n.fits in
    wrote_printed c.requires (wrote_then (wrote_then p q (omega (arith, f, p.end))) c.push_text-2.ensures (omega (arith, f, s, p.end, q.end)))
