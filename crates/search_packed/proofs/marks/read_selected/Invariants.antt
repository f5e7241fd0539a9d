use Rattle.search_packed.specs.ProgramMarks.{read_by, read_key_value}
use Rattle.search_packed.proofs.MarkSweep.{Sweep}
use Rattle.search_packed.proofs.marks.read_selected.Given as goal

abbrev pub invariant-loop-i : goal.invariant-loop-i
invariant-loop-i l = Sweep read_by read_key_value l.mute l.keys l.initial.marks l.i l.marks l.id
