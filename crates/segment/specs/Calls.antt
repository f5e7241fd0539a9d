-- Opening, receive, clear and baud change: 01's number (0: accepted), what is handed out, and the segment afterwards.
use Rattle.std.specs.Prelude.{Bool, List, [], ◌++◌, ℕ, min, Float, length, take, drop, if◌then◌else◌}
use Rattle.laws.specs.Refusal.{not_refused, refused_baud}
use Rattle.meter.specs.Meter.{rates}
use Rattle.list_check.specs.Tables.{is_rate_value}
use Rattle.list_open.specs.Opening.{opens, refuses, open_list_value}
use Rattle.segment.specs.Plain.{Plain, with_queue}

-- ---- opening

-- "An accepted opening builds it anew"; "a later accepted one replaces the segment, a later refused one leaves the
-- former in use"
unfoldable pub after_opening : List ℕ → ℕ → Bool → Float → Plain → Plain
after_opening list bus practice origin former =
    elim (open_list_value list bus practice) [
      | opens ms ↦ record { baud = bus; origin = origin; input = []; queue = []; meters = ms }
      | refuses number index ↦ former
    ]

-- ---- what a call comes to that is accepted or refused

pub record Done : Type 0 where
  pub number : ℕ
  pub segment : Plain

abbrev pub accepted : Plain → Done
accepted s = record { number = not_refused; segment = s }

-- "a refused one changes nothing"
abbrev pub refused : ℕ → Plain → Done
refused n s = record { number = n; segment = s }

-- ---- receive, clear, baud change

pub record Received : Type 0 where
  pub count : ℕ
  pub lent : List ℕ
  pub segment : Plain

-- "Receive hands out the least of 32, the lent length and the queued bytes; lent bytes past these stay"
unfoldable pub receive : List ℕ → Plain → Received
receive lent s =
    let n = min 32 (min (length lent) (length s.queue)) in
    record { count = n; lent = take n s.queue ++ drop n lent; segment = with_queue (drop n s.queue) s }

-- "Clear empties the queue alone."
unfoldable pub clear : Plain → Plain
clear s = with_queue [] s

-- 10: "baud not one of eight"; "`set_baud` sets the bus baud and empties the input, nothing else."
unfoldable pub change_baud : ℕ → Plain → Done
change_baud b s =
    if is_rate_value rates b then accepted (record { baud = b; origin = s.origin; input = []; queue = s.queue; meters = s.meters })
    else refused refused_baud s
