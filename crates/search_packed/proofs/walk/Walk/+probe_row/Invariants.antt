-- A probe's own measure is even and below that of the row that it is in; a row's is one above that of its probes.
use Rattle.std.proofs.Common.{◌-◌, ◌≡◌, ◌+◌, ◌*◌, ◌<◌}
use Rattle.search_packed.specs.ProgramPacked.{walking_of, goes_to, packed_walk, packed_row, span_of}
use Rattle.search_packed.proofs.PackedSteps.{steps}
use Rattle.search_packed.proofs.walk.Walk.+probe_row.Given as goal

abbrev pub decreases-probe : goal.decreases-probe
decreases-probe l = 2 * l.unknown

abbrev pub decreases-row : goal.decreases-row
decreases-row l = 2 * l.below + 1

-- what is left of the row from here is the whole of it
abbrev pub invariant-row-loop-digit : goal.invariant-row-loop-digit
invariant-row-loop-digit l =
    (l.span ≡ span_of l.below)
    × (l.first + steps (10 - l._digit) (l.span + 1) + 6 * l.span + 5 < 0x100000000)
    × (goes_to (walking_of l.self) (packed_row (packed_walk l.self.keys l.self.allowance l.below) (l.span + 1) (10 - l._digit) l.first (walking_of l.self).run) ≡ goes_to (walking_of l.fn.self) (packed_row (packed_walk l.fn.self.keys l.fn.self.allowance l.below) (l.span + 1) 10 l.low (walking_of l.fn.self).run))
