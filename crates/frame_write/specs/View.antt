-- What the program answers, in the terms of the definitions.
use Rattle.std.specs.Prelude.{ℕ, List, Result}
use Rattle.laws.specs.Refusal.{refused_data, refused_room, number_of_answer, count_of_answer}
use Rattle.frame_write.specs.Writer as definitions
use Rattle.frame_write.specs.declared.WriteError.{WriteError}
use Rattle.frame_write.specs.declared.WriteError.TheVariants.{DataTooLong, NoRoom}

-- 01's number of a refusal (11: data over 252; 12: lent bytes too few)
abbrev pub refusal_number : WriteError → ℕ
refusal_number DataTooLong = refused_data
refusal_number NoRoom = refused_room

-- 01's number for what writing answered (0: written), and the bytes written
abbrev pub written_number : Result ℕ WriteError → ℕ
written_number w = number_of_answer refusal_number w

abbrev pub written_count : Result ℕ WriteError → ℕ
written_count w = count_of_answer w

-- what writing answered, with the lent bytes afterwards
abbrev pub written_of : Result ℕ WriteError → List ℕ → definitions.WriteOutcome
written_of w lent = record { number = written_number w; count = written_count w; lent = lent }
