-- The places of a mark, into which the program packs a meter: those that follow the first, selected, which is the
-- lowest bit (s % 2).
-- Each is one bit, but for the readouts and the access number, which have a byte.
use Rattle.std.specs.Prelude.{ℕ}

-- reset by a select
abbrev pub FRESH : ℕ
FRESH = 2

-- hears the next telegram
abbrev pub HEARS : ℕ
HEARS = 4

-- last FCB clear
abbrev pub CLEAR : ℕ
CLEAR = 8

-- at bus baud, steady
abbrev pub STEADY : ℕ
STEADY = 16

-- at bus baud, flaky
abbrev pub FLAKY : ℕ
FLAKY = 32

-- its reading always fails
abbrev pub FAILS : ℕ
FAILS = 64

-- too_many
abbrev pub TOO_MANY : ℕ
TOO_MANY = 128

-- the readouts
abbrev pub READOUTS : ℕ
READOUTS = 256

-- the access number
abbrev pub ACCESS : ℕ
ACCESS = 65536
