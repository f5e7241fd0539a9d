-- What a change of one part of an image comes to. The words are the program's: the calls are held to 01's by what the
-- image means before and after.
use Rattle.std.specs.Prelude.{◌≡◌, Result, OnOk, OnErr, List, ◌++◌, ℕ, ◌+◌, ◌*◌, ◌<◌, min, length, take, drop}
use Rattle.meter.specs.PlainMeter.{PlainMeter}
use Rattle.segment_image.specs.MeterBytes.{decode_meter}
use Rattle.segment.specs.Plain.{Plain, with_queue}
use Rattle.segment_image.specs.Image.{block, decode_image, encode_image, Exact}
use Rattle.segment_places.specs.declared.queue.QueueFull.{QueueFull}

-- bytes that meant some segment mean s; and they are its one image, if they were that of the former
pub record Becomes (old : List ℕ) (s : Plain) (new : List ℕ) : Type 0 where
  pub long : length new ≡ length old
  pub means : decode_image new ≡ s
  pub exact : Exact old → new ≡ encode_image s

-- the meter that stands at a place i of an image
abbrev pub meter_in : ℕ → List ℕ → PlainMeter
meter_in i bs = decode_meter (block (4374 + 25 * i) 25 bs)

-- more bytes stand behind those queued; or the queue would be too long, and every byte stays
pub record Queues (more old : List ℕ) (r : Result (Unit {0}) QueueFull) (new : List ℕ) : Type 0 where
  pub done : OnOk r (Becomes old (with_queue ((decode_image old).queue ++ more) (decode_image old)) new)
  pub full : OnErr r (4096 < length (decode_image old).queue + length more)
  pub stays : OnErr r (new ≡ old)

-- the first bytes of a queue, no more than are asked for, lent and queued, are the first of the lent bytes afterwards
pub record HandsOut (most : ℕ) (queue lent : List ℕ) (r : ℕ) (after : List ℕ) : Type 0 where
  pub count : r ≡ min most (min (length lent) (length queue))
  pub given : after ≡ take r queue ++ drop r lent
