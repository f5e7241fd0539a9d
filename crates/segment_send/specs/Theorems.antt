-- What holds of a send, whatever the piece, the clock and the segment.
use Rattle.std.specs.Prelude.{◌≡◌, List, ℕ}
use Rattle.frame.specs.Frame.{incomplete, parse}
use Rattle.time_clock.specs.declared.Clock.{Clock}
use Rattle.segment.specs.Plain.{Plain}
use Rattle.segment_send.specs.Send.{send, due_after}

-- Req 01: "Send hands this number on for what waits after it": what waits after a send that is not refused is an
-- incomplete telegram, or nothing, and the number is the one that it carries. (So it is never 0: frame/specs/Theorems,
-- `DueIsLeast`.)
abbrev pub HandsOnDue : Type 0
HandsOnDue = (piece : List ℕ) (k : Clock) (s : Plain) → (send piece k s).number ≡ 0 → parse (send piece k s).segment.input ≡ incomplete (due_after (send piece k s))
