use Rattle.search.specs.ProgramPacking.{record_in}
use Rattle.search.proofs.pack.record_of.Goals as goal

pub returns : goal.returns
unfolding record_in
returns c = λ i. record { kind = c.kind_of.ensures i; digits = c.digits_of.ensures i; count = c.count_of.ensures i }
