-- `c_search::entries::summary_of` meets its contract.
use mathlib.Core.Path.{refl, ap, ◌∙◌}
use borrow.Author.Rules.{rules}
use Rattle.std.proofs.Common.{w32, w64}
use Rattle.laws.proofs.Lists.{bit_from}
use Rattle.numbers.specs.Values.{little}
use Rattle.numbers.proofs.LeBytes.{little_bytes}
use Rattle.c_search.proofs.entries.summary_of.Goals as goal

pub returns : goal.returns
unfolding little
returns c =
    let a = c.args in
    rw (c.to_le_bytes-c.ensures ∙ little_bytes w64 a.count, c.to_le_bytes-p.ensures ∙ little_bytes w32 a.probes, c.to_le_bytes-s.ensures ∙ little_bytes w32 c.from.result ∙ ap (little 4) (c.from.ensures ∙ bit_from a.spent)) refl
