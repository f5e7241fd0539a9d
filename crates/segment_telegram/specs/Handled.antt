-- What one telegram does to the segment (01, "Send, select, receive").
use Rattle.std.specs.Prelude.{Bool, false, List, [], ◌∷◌, ◌++◌, map, ℕ, eqb, if◌then◌else◌}
use Rattle.frame.specs.Protocol.{addr_broadcast}
use Rattle.frame.specs.Frame.{Telegram, ack, short, long}
use Rattle.time_seconds.specs.Seconds.{elapsed_of_value}
use Rattle.time_clock.specs.declared.Clock.{Clock}
use Rattle.meter_step.specs.Hear.{Reply, silence, says, Heard, hear}
use Rattle.segment.specs.Plain.{Plain}
use Rattle.segment_replies.specs.Replies.{joined}

-- the replies of those that gave one, in list order
abbrev pub with_reply : Reply → List (List ℕ) → List (List ℕ)
with_reply silence rs = rs
with_reply (says r) rs = r ∷ rs

abbrev pub replies : List Heard → List (List ℕ)
replies [] = []
replies (h ∷ hs) = with_reply h.reply (replies hs)

-- a telegram to address FF; ACK has no address
abbrev pub to_broadcast_value : Telegram → Bool
to_broadcast_value ack = false
to_broadcast_value (short c a) = eqb a addr_broadcast
to_broadcast_value (long c a ci d) = eqb a addr_broadcast

-- every meter hears the telegram in its own way; elapsed is now - origin, one rounding, not below 0
unfoldable pub heard_by : Telegram → Clock → Plain → List Heard
heard_by t k s = let e = elapsed_of_value k.now s.origin in map (hear s.baud t e k) s.meters

-- a complete telegram, handled, with what is left of the input. "Replies join a queue .., except after address FF"
unfoldable pub handled : Telegram → Clock → List ℕ → Plain → Plain
handled t k rest s =
    let hs = heard_by t k s in
    record {
      baud = s.baud;
      origin = s.origin;
      input = rest;
      queue = if to_broadcast_value t then s.queue else s.queue ++ joined (replies hs);
      meters = map (λ h. h.meter) hs;
    }
