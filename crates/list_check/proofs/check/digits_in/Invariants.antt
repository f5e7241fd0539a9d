use Rattle.list_check.proofs.CheckLaws.{DigitsTo}
use Rattle.list_check.proofs.check.digits_in.Given as goal

abbrev pub invariant-loop-c : goal.invariant-loop-c
invariant-loop-c l = DigitsTo l.base l.text l.c-index l.n
