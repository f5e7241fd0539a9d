use native.Mathlib.Omega.{arith}
use Rattle.list_open.specs.Opening.{capacity}
use Rattle.listing_text.specs.Text.{first_line}
use Rattle.listing_text.proofs.TextLaws.{number_short, wrote_then}
use Rattle.listing_text.proofs.page.Page.push_first.Goals as goal

pub push_number-requires : goal.push_number-requires
unfolding capacity
push_number-requires c = let s = number_short c.ranges.entries.fits in omega (arith, s)

pub push_text-requires : goal.push_text-requires
unfolding capacity
push_text-requires c = let s = number_short c.ranges.entries.fits in omega (arith, s, c.push_number.ensures.end)

pub push_number-requires-2 : goal.push_number-requires-2
unfolding capacity
push_number-requires-2 c =
    let s = number_short c.ranges.entries.fits in
    let t = number_short c.ranges.probes.fits in
    omega (arith, s, t, c.push_number.ensures.end, c.push_text.ensures.end)

pub push_text-requires-2 : goal.push_text-requires-2
unfolding capacity
push_text-requires-2 c =
    let s = number_short c.ranges.entries.fits in
    let t = number_short c.ranges.probes.fits in
    omega (arith, s, t, c.push_number.ensures.end, c.push_text.ensures.end, c.push_number-2.ensures.end)

pub returns : goal.returns
unfolding capacity first_line
returns c =
    let p = c.push_number.ensures in
    let q = c.push_text.ensures in
    let r = c.push_number-2.ensures in
    let s = c.push_text-2.ensures in
    let f = c.args.self.now.fits in
    let m = number_short c.ranges.entries.fits in
    let n = number_short c.ranges.probes.fits in
    (wrote_then (wrote_then (wrote_then p q (omega (arith, f, m, p.end))) r (omega (arith, f, m, p.end, q.end))) s (omega (arith, f, m, n, p.end, q.end, r.end)), omega (arith, m, n, p.end, q.end, r.end, s.end))
