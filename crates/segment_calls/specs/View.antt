-- What the program's calls answer, in the terms of the definitions.
use Rattle.std.specs.Prelude.{ℕ, Result}
use Rattle.laws.specs.Refusal.{refused_baud, number_of_answer}
use Rattle.segment_calls.specs.declared.NoRate.{NoRate}

-- the number of what a baud change answered. 10: baud not one of eight. 0: accepted
abbrev pub changing_number_value : Result (Unit {0}) NoRate → ℕ
changing_number_value answer = number_of_answer (λ refusal. refused_baud) answer
