-- What the program keeps of the replies that it has joined so far. That it comes to 01's joining is proved
-- (proofs/JoiningLaws, `joined_is`).
use Rattle.std.specs.Prelude.{◌≡◌, ℕ, ◌+◌, ◌%◌, ◌^◌, ◌<◌, ◌≤◌, min, max, ◌&&◌, List, length, take, replicate, bit_and, slice_index, slice_index_or, slice_set, if◌then◌else◌}
use Rattle.laws.specs.Words.{Every, Bytes}
use Rattle.frame.specs.Protocol.{ack_byte}
use Rattle.meter_reply.specs.declared.Reply.{Reply}
use Rattle.segment_replies.specs.declared.Joining.{Joining}
use Rattle.segment_replies.specs.Replies.{is_e5, all_e5, longest, overlaid}

-- the places of the array that a reply stands in; the longest reply has 84 bytes
abbrev pub reply_most : ℕ
reply_most = 96

-- how many replies, whether all are E5, the longest, and their bytewise AND, filled with FF
pub record Joins (rs : List (List ℕ)) (j : Joining) : Type 0 where
  pub count : j.count ≡ length rs
  pub acks : j.acks ≡ all_e5 rs
  pub len : j.len ≡ longest rs
  pub fits : j.len ≤ reply_most
  pub room : length j.bytes ≡ reply_most
  pub small : Every Bytes rs
  pub and : (i : ℕ) → i < reply_most → slice_index_or j.bytes i 0xFF ≡ overlaid rs i

-- the bytes of the joined reply: all E5, end to end; else the AND
abbrev pub bytes_kept : Joining → List ℕ
bytes_kept j = if j.acks then replicate j.count ack_byte else take j.len j.bytes

-- the bytes of new up to a place are those of old and of a reply joined by AND, the others those of old
pub record Overlays (old reply : List ℕ) (i : ℕ) (new : List ℕ) : Type 0 where
  pub room : length new ≡ length old
  pub done : (k : ℕ) → k < i → slice_index_or new k 0xFF ≡ bit_and (slice_index_or old k 0xFF) (slice_index_or reply k 0xFF)
  pub left : (k : ℕ) → i ≤ k → slice_index_or new k 0xFF ≡ slice_index_or old k 0xFF

-- what is kept after one reply more, an E5: the count is a number of 64 bits, and the byte in front is joined with E5
-- by AND
pub record JoinsAck (j r : Joining) : Type 0 where
  pub count : r.count ≡ (j.count + 1) % 2 ^ 64
  pub acks : r.acks ≡ j.acks
  pub len : r.len ≡ max j.len 1
  pub bytes : r.bytes ≡ slice_set j.bytes 0 (bit_and (slice_index j.bytes 0) ack_byte)

-- what is kept after one reply more, any bytes. The bytes of both are arrays, whose types say how long they are and
-- that they hold bytes.
pub record JoinsReply (j : Joining) (reply : Reply) (r : Joining) : Type 0 where
  pub count : r.count ≡ (j.count + 1) % 2 ^ 64
  pub acks : r.acks ≡ (j.acks && is_e5 (take reply.len reply.bytes))
  pub len : r.len ≡ max j.len (min reply.len reply_most)
  pub bytes : length j.bytes ≡ reply_most → Overlays j.bytes reply.bytes (min reply.len reply_most) r.bytes
  pub array : (length reply.bytes ≡ reply_most) × Bytes reply.bytes
