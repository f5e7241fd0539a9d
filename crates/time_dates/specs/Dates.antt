-- How dates and times are written into bytes.
use Rattle.std.specs.Prelude.{List, [], ◌∷◌, ℕ, ◌+◌, ◌*◌, ◌/◌, ◌%◌}

-- a date of type G (EN 13757-3): the day with the three low bits of the year of the century above it; the month with
-- the other four bits.
-- Each is a byte: what a field out of its range has above that is lost.
unfoldable pub type_g_value : ℕ → ℕ → ℕ → List ℕ
type_g_value year month day = (day + year % 100 % 8 * 32) % 256 ∷ (month + year % 100 / 8 * 16) % 256 ∷ []

-- date and time of type F: minute, hour, then the date
unfoldable pub type_f_value : ℕ → ℕ → ℕ → ℕ → ℕ → List ℕ
type_f_value year month day hour minute = minute % 256 ∷ hour % 256 ∷ type_g_value year month day
