use mathlib.Core.Path.{◌≡◌}
use lib.ListN.{length}
use Rattle.search.specs.ProgramPacking.{record_in}
use Rattle.search.proofs.PackLaws.{Mapped}
use Rattle.search.proofs.pack.write_records.Given as goal

-- the first i entries are written
abbrev pub invariant-loop-i : goal.invariant-loop-i
invariant-loop-i l = record {
  end : l.i-end ≡ length l.found;
  mapped : Mapped record_in l.initial.lent l.found l.i l.lent;
}
