-- A segment as bytes: what the bytes of an image mean (any bytes mean a segment), and the image that a segment has.
use Rattle.std.specs.Prelude.{◌≡◌, List, [], ◌∷◌, ◌++◌, ℕ, zero, suc, ◌+◌, ◌-◌, ◌*◌, min, Float, length, take, drop, replicate}
use Rattle.std.specs.Float.{binary64}
use Rattle.std.specs.Float.Ieee.{to_bits, of_bits}
use Rattle.laws.specs.Words.{each}
use Rattle.numbers.specs.Values.{little}
use Rattle.meter.specs.PlainMeter.{PlainMeter}
use Rattle.segment_image.specs.MeterBytes.{decode_meter, encode_meter}
use Rattle.numbers.specs.Number.{number}
use Rattle.list_open.specs.Opening.{capacity}
use Rattle.segment.specs.Plain.{Plain}

-- n bytes from a place on
abbrev pub block : ℕ → ℕ → List ℕ → List ℕ
block p n bs = take n (drop p bs)

-- how many bytes there are: 18 in front, the input's, the queue's, and 25 for each meter that a segment can have
abbrev pub image_len : ℕ
image_len = 18 + 260 + 4096 + 25 * capacity

-- n meters, one behind the other, 25 bytes each
unfoldable pub meters : ℕ → List ℕ → List PlainMeter
meters zero bs = []
meters (suc n) bs = decode_meter (take 25 bs) ∷ meters n (drop 25 bs)

-- a segment:
-- baud, 4 bytes at 0
-- origin, the 8 bytes of an f64 at 4
-- input, from 18 on as many bytes as the two at 14 say, at most 260
-- queue, from 278 on as many bytes as the two at 16 say, at most 4096
-- meters, from 4374 on as many as the two bytes at 12 say, at most as many as a segment can have
unfoldable pub decode_image : List ℕ → Plain
decode_image bs =
    record {
      baud = number 4 0 bs;
      origin = of_bits binary64 (number 8 4 bs);
      input = block 18 (min (number 2 14 bs) 260) bs;
      queue = block 278 (min (number 2 16 bs) 4096) bs;
      meters = meters (min (number 2 12 bs) capacity) (drop 4374 bs);
    }

-- the first 18 bytes, by what they say
pub record Head (baud : ℕ) (origin : Float) (count waiting queued : ℕ) (bs : List ℕ) : Type 0 where
  pub baud_at : number 4 0 bs ≡ baud
  pub origin_at : of_bits binary64 (number 8 4 bs) ≡ origin
  pub count_at : number 2 12 bs ≡ count
  pub waiting_at : number 2 14 bs ≡ waiting
  pub queued_at : number 2 16 bs ≡ queued

-- ---- and back

-- the first 18 bytes. A NaN has the pattern 7FF8000000000000
unfoldable pub head_bytes_value : ℕ → Float → ℕ → ℕ → ℕ → List ℕ
head_bytes_value baud origin count waiting queued = little 4 baud ++ little 8 (to_bits binary64 origin) ++ little 2 count ++ little 2 waiting ++ little 2 queued

-- some bytes, and 0 behind them, n in all
abbrev pub filled : ℕ → List ℕ → List ℕ
filled n bs = bs ++ replicate (n - length bs) 0

-- the image of a segment: every byte that is not in use is 0
unfoldable pub encode_image : Plain → List ℕ
encode_image s =
    head_bytes_value s.baud s.origin (length s.meters) (length s.input) (length s.queue)
    ++ filled 260 s.input
    ++ filled 4096 s.queue
    ++ filled (25 * capacity) (each s.meters encode_meter)

-- bytes that are the one image of the segment that they mean
abbrev pub Exact : List ℕ → Type 0
Exact bs = bs ≡ encode_image (decode_image bs)

-- the image of a segment, which means it
pub record IsImage (s : Plain) (bs : List ℕ) : Type 0 where
  pub bytes : bs ≡ encode_image s
  pub means : decode_image bs ≡ s
