use mathlib.Core.Path.{◌≡◌}
use lib.ListN.{length}
use Rattle.laws.proofs.Rows.{Rows}
use Rattle.c_search.specs.Searches.{entry_bytes_value}
use Rattle.c_search.proofs.entries.write_entries.Given as goal

-- the first i entries are written
abbrev pub invariant-loop-i : goal.invariant-loop-i
invariant-loop-i l = record {
  long : length l.lent ≡ length l.initial.lent;
  rows : Rows entry_bytes_value 16 l.found l.initial.lent l.i l.lent;
}
