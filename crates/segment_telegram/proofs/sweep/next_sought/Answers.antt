use mathlib.Core.Path.{◌≡◌, sym, subst, ◌∙◌}
use native.Mathlib.Omega.{arith}
use Rattle.segment_telegram.proofs.SweepLaws.{Skipping, skipping_none, skipping_more}
use Rattle.segment_telegram.proofs.sweep.next_sought.Goals as goal

pub loop-i-init : goal.loop-i-init
loop-i-init c = skipping_none c.requires.0

pub returns-then-is_sought-clause-skips : goal.returns-then-is_sought-clause-skips
returns-then-is_sought-clause-skips c =
    let s = c.loop-i.invariant in
    record { onward = s.onward; within = s.within; past = s.past; there = λ t k h. sym (c.is_sought.ensures t k) ∙ c.if-is_sought.true }

pub loop-i-preserved : goal.loop-i-preserved
loop-i-preserved c = skipping_more c.loop-i.invariant (omega arith) (λ t k. sym (c.is_sought.ensures t k) ∙ c.if-is_sought.false)

pub returns-clause-skips : goal.returns-clause-skips
returns-clause-skips c =
    let at = c.loop-i in
    let s = at.invariant in
    let a = c.args in
    let e : at.i ≡ a.end = omega (arith, s.within) in
    record { onward = omega (arith, s.onward); within = omega arith; past = (subst (Skipping a.q a.image.now a.from a.end) e s).past; there = λ t k h. absurd (omega arith) }
