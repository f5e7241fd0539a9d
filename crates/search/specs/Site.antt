-- A site, as the listing program takes it.
use Rattle.std.specs.Prelude.{false, List, ℕ}
use Rattle.time_seconds.specs.Seconds.{zero_seconds}
use Rattle.time_clock.specs.declared.Clock.{Clock}
use Rattle.segment.specs.Plain.{Plain, blank}
use Rattle.segment.specs.Calls.{after_opening}

-- "opens at 2400 without the flag, origin .. 0": the first opening of a segment
unfoldable pub site : List ℕ → Plain
site list = after_opening list 2400 false zero_seconds blank

-- "now 0, date 2026-10-01 00:00"
unfoldable pub october : Clock
october = record { now = zero_seconds; year = 2026; month = 10; day = 1; hour = 0; minute = 0 }
