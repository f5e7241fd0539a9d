-- The clock's fields (01, "Send, select, receive"), and when a call takes them.
use Rattle.std.specs.Prelude.{Bool, ◌&&◌, ℕ, Float}
use Rattle.laws.specs.Words.{within}
use Rattle.time_clock.specs.declared.Clock.{Clock}

-- the clock: year 1970..9999, month 1..12, day 1..31, hour 0..23, minute 0..59
unfoldable pub good_clock_value : Clock → Bool
good_clock_value k =
    within 1970 9999 k.year
    && within 1 12 k.month
    && within 1 31 k.day
    && within 0 23 k.hour
    && within 0 59 k.minute

-- a clock by its six numbers, as they cross the boundary of the static library
abbrev pub clock_at_value : Float → ℕ → ℕ → ℕ → ℕ → ℕ → Clock
clock_at_value secs year month day hour minute = record { now = secs; year = year; month = month; day = day; hour = hour; minute = minute }
