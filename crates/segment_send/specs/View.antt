-- What the program's send answers, in the terms of the definitions.
use Rattle.std.specs.Prelude.{◌≡◌, List, ℕ, Result}
use Rattle.laws.specs.Refusal.{refused_piece, refused_clock, refused_queue, number_of_answer, count_of_answer}
use Rattle.segment.specs.Calls.{Done}
use Rattle.segment_image.specs.Answers.{DoneImage}
use Rattle.segment_send.specs.Send.{due_after}
use Rattle.segment_send.specs.declared.SendError.{SendError}
use Rattle.segment_send.specs.declared.SendError.TheVariants.{PieceTooLong, ClockOutOfRange, QueueFull}

-- why it was refused, as a number. 13: piece over 1,024; 14: a clock field out of range; 15: queue would pass 4,096
abbrev pub send_error_number : SendError → ℕ
send_error_number PieceTooLong = refused_piece
send_error_number ClockOutOfRange = refused_clock
send_error_number QueueFull = refused_queue

-- the number of what send answered. 0: accepted
abbrev pub sending_number_value : Result ℕ SendError → ℕ
sending_number_value answer = number_of_answer send_error_number answer

-- how many bytes it says are due
abbrev pub sending_due_value : Result ℕ SendError → ℕ
sending_due_value answer = count_of_answer answer

-- the answer has the number of `want` and how many bytes are due after it, and the image means its segment
pub record SentImage (want : Done) (number due : ℕ) (before after : List ℕ) : Type 0 where
  pub done : DoneImage want number before after
  pub due-is : due ≡ due_after want
