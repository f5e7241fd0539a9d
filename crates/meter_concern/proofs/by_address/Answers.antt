use mathlib.Core.Path.{sym, ap, subst}
use mathlib.Core.Bool.{false}
use native.Mathlib.Omega.{arith}
use Rattle.meter_step.specs.Hear.{reaches}
use Rattle.meter_concern.specs.ProgramSeeking.{Seeks}
use Rattle.meter_concern.proofs.SeekLaws.{seeks_as, seeks_every, seeks_selected, seeks_primary, reaches_everybody, reaches_other}
use Rattle.meter_concern.proofs.by_address.Goals as goal

pub returns-in-253 : goal.returns-in-253
returns-in-253 c = seeks_as (λ p s i. ap (λ a. reaches a p s) (sym c.in-253.is)) seeks_selected

pub returns-in-255 : goal.returns-in-255
returns-in-255 c = seeks_as (reaches_everybody c.args.address (omega arith) (omega arith)) seeks_every

pub returns-in_default : goal.returns-in_default
returns-in_default c =
    let a = c.args.address in
    subst (λ w. Seeks (λ p s i. reaches a p s) (record { selected = false; mask = 255; want = w })) (sym c.from.ensures)
    (seeks_as (reaches_other a (λ e. omega arith) (λ e. omega arith) (λ e. omega arith)) (seeks_primary a))
