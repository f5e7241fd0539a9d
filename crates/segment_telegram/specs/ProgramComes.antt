-- What handling telegrams comes to, on an image. The words are the program's.
use Rattle.std.specs.Prelude.{Result, OnOk, OnErr, List, ℕ, ◌+◌, ◌*◌, ◌≤◌, ◌<◌, length}
use Rattle.frame.specs.Frame.{Telegram, ack, short, long}
use Rattle.segment.specs.Plain.{Plain, with_queue}
use Rattle.segment_replies.specs.ProgramJoining.{reply_most}
use Rattle.segment_image.specs.Image.{decode_image}
use Rattle.segment_places.specs.ProgramBecomes.{Becomes}
use Rattle.segment_places.specs.declared.queue.QueueFull.{QueueFull}

-- how many replies join the queue after a telegram, at the most: nobody replies to an ACK
abbrev pub may_reply : Telegram → ℕ
may_reply ack = 0
may_reply (short c a) = 1
may_reply (long c a ci d) = 1

-- Telegrams that give the segment s, with at most n replies, were handled. Done: the image means s. Else the queue of
-- s would be too long.
-- A reply has 96 bytes at the most, which bounds the queue of s where it was done, and tells where it cannot be too
-- long
pub record Comes (s : Plain) (n : ℕ) (old : List ℕ) (r : Result (Unit {0}) QueueFull) (new : List ℕ) : Type 0 where
  pub done : OnOk r (Becomes old s new)
  pub full : OnErr r (4096 < length s.queue)
  pub bound : OnErr r (4096 < length (decode_image old).queue + reply_most * n)
  pub grows : OnOk r (length s.queue ≤ length (decode_image old).queue + reply_most * n)

-- one telegram; where its reply does not fit, the meters have heard it all the same, and the queue is as it was
pub record Handles (t : Telegram) (s : Plain) (old : List ℕ) (r : Result (Unit {0}) QueueFull) (new : List ℕ) : Type 0 where
  pub comes : Comes s (may_reply t) old r new
  pub left : OnErr r (Becomes old (with_queue (decode_image old).queue s) new)
