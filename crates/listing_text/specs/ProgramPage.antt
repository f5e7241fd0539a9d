-- The program's own page: lent bytes, and how many of them are written.
use Rattle.std.specs.Prelude.{List, ℕ}
use Rattle.listing_text.specs.Text.{Wrote}
use Rattle.listing_text.specs.declared.page.Page.{Page}

-- a text is put behind what is written
abbrev pub Adds : Page → List ℕ → Page → Type 0
Adds p text q = Wrote p.bytes p.len text q.len q.bytes
