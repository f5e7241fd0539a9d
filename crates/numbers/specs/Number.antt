-- What the bytes of a number mean.
use Rattle.std.specs.Prelude.{List, ℕ, zero, suc, ◌+◌, ◌*◌}
use Rattle.laws.specs.Words.{at}

-- the number of n bytes from a place on, low byte first
unfoldable pub number : ℕ → ℕ → List ℕ → ℕ
number zero p bs = 0
number (suc n) p bs = at bs p + 256 * number n (suc p) bs
