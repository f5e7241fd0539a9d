-- What a mask and a reading do to the marks of packed meters. The words are the program's: that they do what sending
-- them to the segment does is proved
-- (search, proofs/PackedProbe, `probe-packed`, and proofs/PackedRead, `read-packed`).
use Rattle.std.specs.Prelude.{ℕ, zero, suc, ◌+◌, ◌-◌, ◌*◌, ◌/◌, ◌%◌, Bool, ◌&&◌, ◌||◌, ltb, List, [], ◌∷◌, ◌==◌, bit_and, bit_or, bit_xor, nat_lt, if◌then◌else◌}
use Rattle.laws.specs.Words.{bit_if, within}
use Rattle.search_packed.specs.ProgramBits.{FRESH, HEARS, CLEAR, STEADY, FLAKY, FAILS, TOO_MANY, READOUTS, ACCESS}

-- 1 where the meter with the mark s answers a telegram; put is 1 where the telegram is put to it
unfoldable pub yes_of : ℕ → ℕ → ℕ
yes_of s offered = bit_and (bit_or (s / STEADY % 2) (s / HEARS % 2)) offered

-- whether it hears the next telegram: a flaky one to which this was put hears the other way
unfoldable pub hears_of_value : ℕ → ℕ → ℕ
hears_of_value s offered = bit_xor (s / HEARS % 2) (bit_and (s / FLAKY % 2) offered)

-- a mark after a mask: selected exactly if the meter answers; a yes resets
unfoldable pub marked : ℕ → ℕ → ℕ
marked s offered =
    s / STEADY * STEADY + bit_and (s / CLEAR % 2) (1 - yes_of s offered) % 2 * CLEAR + hears_of_value s offered * HEARS + bit_or (s / FRESH % 2) (yes_of s offered) % 2 * FRESH + yes_of s offered

-- the readouts of a too_many meter are counted, up to 3
unfoldable pub readouts_in : ℕ → ℕ
readouts_in s = if s / TOO_MANY % 2 == 0 then s / READOUTS % 256 else (if ltb (s / READOUTS % 256) 3 then s / READOUTS % 256 + 1 else 3)

-- a mark after a reading, which is put to the selected
unfoldable pub read_mark_value : ℕ → ℕ
read_mark_value s =
    if yes_of s (s % 2) == 0 then s / CLEAR * CLEAR + hears_of_value s (s % 2) * HEARS + s % HEARS
    else s / STEADY % 16 * STEADY + CLEAR + hears_of_value s (s % 2) * HEARS + s % HEARS + readouts_in s % 256 * READOUTS + (s / ACCESS % 256 + 1) % 256 * ACCESS

-- by key and mark: the mark after the mask low..high, and after a reading
unfoldable pub masked : ℕ → ℕ → ℕ → ℕ → ℕ
masked low high key s = marked s (bit_if (within low high key))

unfoldable pub read_by : ℕ → ℕ → ℕ
read_by key s = read_mark_value s

-- the acknowledgements counted so far, with those of the next meter
unfoldable pub acked : ℕ → ℕ → ℕ → ℕ → ℕ → ℕ
acked low high n key s = n + masked low high key s % 2

-- its reply is good
unfoldable pub readable : ℕ → Bool
readable s = s / FAILS % 2 == 0 && (s / TOO_MANY % 2 == 0 || nat_lt (s / READOUTS % 256) 2)

-- what was read so far, with what the next meter replies: a good reply's id behind a 1
unfoldable pub read_key_value : ℕ → ℕ → ℕ → ℕ
read_key_value id key s = if yes_of s (s % 2) == 1 && readable s then 0x100000000 + key else id

module _ {K S : Type 0} where
  -- f over the first n marks, each with its key
  abbrev pub swept_by : (K → S → S) → ℕ → List K → List S → List S
  swept_by f zero ks ss = ss
  swept_by f (suc n) [] ss = ss
  swept_by f (suc n) (k ∷ ks) [] = []
  swept_by f (suc n) (k ∷ ks) (s ∷ ss) = f k s ∷ swept_by f n ks ss

  -- a number that takes in the first n, from the left
  abbrev pub fold_by : (ℕ → K → S → ℕ) → ℕ → ℕ → List K → List S → ℕ
  fold_by g a zero ks ss = a
  fold_by g a (suc n) [] ss = a
  fold_by g a (suc n) (k ∷ ks) [] = a
  fold_by g a (suc n) (k ∷ ks) (s ∷ ss) = fold_by g (g a k s) n ks ss
