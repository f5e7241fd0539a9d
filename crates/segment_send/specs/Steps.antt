-- Send's steps (01, "Send, select, receive"): the waiting input, telegram by telegram.
use Rattle.std.specs.Prelude.{[], ℕ, zero, suc, length, drop}
use Rattle.frame.specs.Frame.{complete, incomplete, invalid, parse}
use Rattle.time_clock.specs.declared.Clock.{Clock}
use Rattle.segment.specs.Plain.{Plain, with_input}
use Rattle.segment_telegram.specs.Handled.{handled}

-- "Complete telegrams are handled in turn; an incomplete one waits; an invalid one discards all remaining input."
-- `n` bounds the telegrams: the number of waiting bytes will do
unfoldable pub steps : ℕ → Clock → Plain → Plain
steps zero k s = s
steps (suc n) k s =
    elim (parse s.input) [
      | complete t used ↦ steps n k (handled t k (drop used s.input) s)
      | incomplete m ↦ s
      | invalid why ↦ with_input [] s
    ]

-- the waiting input, handled as far as it goes
unfoldable pub handled_all : Clock → Plain → Plain
handled_all k s = steps (length s.input) k s
