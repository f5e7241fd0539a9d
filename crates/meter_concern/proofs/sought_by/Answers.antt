use mathlib.Core.Path.{sym, subst}
use Rattle.frame.specs.View.{telegram_of}
use Rattle.meter_identity.specs.Identity.{digits_of_value}
use Rattle.meter_concern.specs.ProgramConcern.{concerns}
use Rattle.meter_concern.specs.ProgramSeeking.{Seeks}
use Rattle.meter_concern.proofs.SeekLaws.{seeks_none}
use Rattle.meter_concern.proofs.sought_by.Goals as goal

pub returns-in-Ack : goal.returns-in-Ack
unfolding concerns
returns-in-Ack c =
    subst (λ f. Seeks (λ p s i. concerns (telegram_of f) p s (digits_of_value i)) _) (sym c.in-Ack.is) seeks_none

pub returns-in-Short : goal.returns-in-Short
unfolding concerns
returns-in-Short c =
    subst (λ f. Seeks (λ p s i. concerns (telegram_of f) p s (digits_of_value i)) c.by_address.result) (sym c.in-Short.is) c.by_address.ensures
