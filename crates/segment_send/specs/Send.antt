-- Send (01, "Send, select, receive"): 01's number (0: accepted), and the segment afterwards.
use Rattle.std.specs.Prelude.{not, List, ◌++◌, ℕ, eqb, ltb, length, if◌then◌else◌}
use Rattle.laws.specs.Refusal.{not_refused, refused_piece, refused_clock, refused_queue}
use Rattle.frame.specs.Frame.{due, parse}
use Rattle.time_clock.specs.declared.Clock.{Clock}
use Rattle.time_clock.specs.Fields.{good_clock_value}
use Rattle.segment.specs.Plain.{Plain, with_input}
use Rattle.segment.specs.Calls.{Done, accepted, refused}
use Rattle.segment_send.specs.Steps.{handled_all}

-- 15: "queue would pass 4,096"
abbrev pub fits_queue : Plain → Plain → Done
fits_queue s t = if ltb 4096 (length t.queue) then refused refused_queue s else accepted t

-- 13: "piece over 1,024"; 14: "a clock field out of range"; "The piece joins the waiting input.", and the steps are
-- taken
unfoldable pub send : List ℕ → Clock → Plain → Done
send piece k s =
    if ltb 1024 (length piece) then refused refused_piece s else
    if not (good_clock_value k) then refused refused_clock s else
    fits_queue s (handled_all k (with_input (s.input ++ piece) s))

-- Req 01: "Send hands this number on for what waits after it; a refused send gives 0."
abbrev pub due_after : Done → ℕ
due_after d = if eqb d.number not_refused then due (parse d.segment.input) else 0
