use Rattle.std.proofs.Common.{◌≡◌, take}
use Rattle.frame.specs.Frame.{sum}
use Rattle.frame.proofs.checksum.Given as goal

abbrev pub invariant-loop-byte : goal.invariant-loop-byte
invariant-loop-byte l = l.total ≡ sum (take l.byte-index l.bytes)
