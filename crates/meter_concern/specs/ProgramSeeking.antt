-- Whom a telegram concerns, as the program works it out once for each telegram.
use Rattle.std.specs.Prelude.{◌≡◌, Bool, ◌&&◌, ◌||◌, ℕ, ◌+◌, ◌*◌, ◌/◌, ◌%◌, ◌^◌, ◌<◌, eqb, if◌then◌else◌}
use Rattle.std.specs.Int.Bits.{bit_and}
use Rattle.meter_concern.specs.declared.Seeking.{Seeking}

-- F where a digit of a select's mask is known, 0 where it is F and matches any
abbrev pub known_digit_value : ℕ → ℕ
known_digit_value d = if eqb d 0xF then 0 else 0xF

abbrev pub known_digits : ℕ → ℕ
known_digits b = known_digit_value (b / 16) * 16 + known_digit_value (b % 16)

-- a meter's first eight bytes as one number, low byte first: the primary address, the id, and three more
abbrev pub first_bytes : (primary id more : ℕ) → ℕ
first_bytes primary id more = primary + 256 * (id + 2 ^ 32 * more)

-- a selected meter, if q says so; one whose first bytes have the bits wanted where the mask has them
unfoldable pub sought_by_value : Seeking → (word : ℕ) → (selected : Bool) → Bool
sought_by_value q word selected = (selected && q.selected) || eqb (bit_and word q.mask) q.want

-- q seeks the meters that a test passes: any byte is a primary address, and any 32 bits are an id
pub record Seeks (test : ℕ → Bool → ℕ → Bool) (q : Seeking) : Type 0 where
  pub are : (p : ℕ) (s : Bool) (i more : ℕ) → p < 256 → i < 2 ^ 32 → sought_by_value q (first_bytes p i more) s ≡ test p s i
