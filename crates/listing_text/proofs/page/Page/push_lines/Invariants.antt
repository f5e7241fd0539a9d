use Rattle.listing_text.proofs.TextLaws.{Lined}
use Rattle.listing_text.proofs.page.Page.push_lines.Given as goal

-- the lines of the first entries are written
abbrev pub invariant-loop-e : goal.invariant-loop-e
invariant-loop-e l = Lined l.initial.self.bytes l.initial.self.len l.entries l.e-index l.self.len l.self.bytes
