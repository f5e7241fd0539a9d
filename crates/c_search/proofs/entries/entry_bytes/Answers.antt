-- `c_search::entries::entry_bytes` meets its contract.
use mathlib.Core.Path.{◌∙◌}
use Rattle.std.proofs.Common.{w32}
use Rattle.numbers.proofs.LeBytes.{little_bytes}
use Rattle.c_search.proofs.SearchLaws.{entry_is}
use borrow.Author.Rules.{rules}
use Rattle.c_search.proofs.entries.entry_bytes.Goals as goal

pub returns : goal.returns
returns c = entry_is c.args.e c.to_le_bytes-n.result (search rules) (c.to_le_bytes-n.ensures ∙ little_bytes w32 c.args.e.count)
