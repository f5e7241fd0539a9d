use lib.Ieee.{of_bits}
use Rattle.list_open.specs.ProgramGather.{no_meters_value}
use Rattle.segment.specs.Plain.{blank}
use Rattle.segment.proofs.Segment.new.Goals as goal

pub returns : goal.returns
unfolding blank of_bits no_meters_value
returns c = rw c.begin.ensures at c.opened.ensures
