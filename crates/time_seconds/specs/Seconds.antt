-- The whole seconds of a time, from the time's value, and the time that has elapsed.
-- A time is a float of `lib.Ieee`: `nan`, an infinity, or `fin s m e`, the number m * 2 ^ e, negative where s is true.
use Rattle.std.specs.Prelude.{ℕ, suc, ◌*◌, ◌/◌, ◌^◌, min, true, false, ℤ, pos, negsuc, Float}
use Rattle.std.specs.Float.{nan, inf, fin, binary64}
use Rattle.std.specs.Float.Ieee.{sub}

-- The whole part of m * 2 ^ e. `negsuc k` is the exponent -(k + 1), and a quotient of whole numbers drops the fraction.
abbrev pub floor : ℕ → ℤ → ℕ
floor m (pos k) = m * 2 ^ k
floor m (negsuc k) = m / 2 ^ suc k

-- A time's whole seconds, cut toward zero and stopped at `last`. What is below 0 counts 0, and so does `nan`.
unfoldable pub whole : ℕ → Float → ℕ
whole last nan = 0
whole last (inf true) = 0
whole last (inf false) = last
whole last (fin true m e) = 0
whole last (fin false m e) = min (floor m e) last

-- the largest u32 and the largest u64
abbrev pub last32 : ℕ
last32 = 4294967295

abbrev pub last64 : ℕ
last64 = 18446744073709551615

-- 0 s
abbrev pub zero_seconds : Float
zero_seconds = fin false 0 (pos 0)

-- Not below 0: +0 stands for what is negative, -0 with it, and for `nan`.
unfoldable pub not_below0 : Float → Float
not_below0 nan = zero_seconds
not_below0 (inf true) = zero_seconds
not_below0 (inf false) = inf false
not_below0 (fin true m e) = zero_seconds
not_below0 (fin false m e) = fin false m e

-- now - origin, rounded once, and not below 0
unfoldable pub elapsed_of_value : Float → Float → Float
unfolding not_below0
elapsed_of_value now origin = not_below0 (sub binary64 now origin)
