use native.Mathlib.Omega.{arith}
use Rattle.list_open.specs.Opening.{capacity}
use Rattle.listing_text.specs.Text.{report_of}
use Rattle.listing_text.proofs.TextLaws.{wrote_then, wrote_printed}
use Rattle.listing_text.proofs.page.Page.push_report.Goals as goal

pub returns : goal.returns
unfolding capacity report_of
returns c =
    let p = c.push_first.ensures in
    wrote_printed c.requires.0 (wrote_then p.0 c.push_lines.ensures (omega (arith, p.1, c.args.self.now.fits)))
