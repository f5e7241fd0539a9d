use Rattle.std.proofs.Common.{sym, ◌∙◌, arith}
use Rattle.frame.proofs.Cases.{parse-none, front_ack, front_short, front_long, front_other}
use Rattle.frame.proofs.parse.Goals as goal

pub returns-in_default : goal.returns-in_default
returns-in_default c = sym (parse-none _ (omega (arith, c.in_default.len_below)))

pub returns-in-229 : goal.returns-in-229
returns-in-229 c = front_ack _ (λ e. omega (arith, c.in-len1-up.len_at_least)) c.in-229.is

pub returns-in-16 : goal.returns-in-16
returns-in-16 c = c.parse_short.ensures ∙ front_short _ (λ e. omega (arith, c.in-len1-up.len_at_least)) c.in-16.is

pub returns-in-104 : goal.returns-in-104
returns-in-104 c = c.parse_long.ensures ∙ front_long _ (λ e. omega (arith, c.in-len1-up.len_at_least)) c.in-104.is

pub returns-in_default-first : goal.returns-in_default-first
returns-in_default-first c = front_other _ (λ e. omega (arith, c.in-len1-up.len_at_least)) (λ e. omega arith) (λ e. omega arith) (λ e. omega arith)
