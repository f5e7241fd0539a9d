use native.Mathlib.Omega.{arith}
use mathlib.Core.Path.{◌≡◌}
use Prim.Native.Nat.{ℕ, ◌<◌}
use lib.ListN.{length}
use borrow.Author.Rules.{rules}
use Rattle.listing_text.specs.Text
use Rattle.listing_text.specs.Text.{line}
use Rattle.listing_text.proofs.TextLaws.{wrote_then, wrote_as, word_short, each_digit}
use Rattle.listing_text.proofs.page.Page.push_line.Goals as goal

pub returns : goal.returns
unfolding line
returns c =
    let m = c.map.ensures.items in
    let d = each_digit _ _ m.long (search rules) (λ (i : ℕ) (h : i < 8). (m.at i 0 (Text.digit 0) h).2.met) in
    let p = wrote_as c.word.ensures c.push_text.ensures in
    let q = wrote_as d c.push_text-2.ensures in
    let r = c.push_count.ensures in
    let s = c.push_text-3.ensures in
    let f = c.args.self.now.fits in
    let w = word_short c.args.e.kind in
    let n = c.push_text-2.ensures.end in
    let l : length c.map.result ≡ 8 = m.long in
    (wrote_then (wrote_then (wrote_then p q (omega (arith, f, w, p.end))) r.0 (omega (arith, f, w, p.end, l, n))) s (omega (arith, f, w, p.end, l, n, r.1)), omega (arith, w, p.end, l, n, r.1, s.end))
