use Rattle.std.proofs.Common.{◌+◌, ◌-◌, sym, refl, ap, ◌∙◌, arith}
use Rattle.search_packed.specs.ProgramPacked.{Walking, walking, walking_of, goes_to, packed_walk, packed_row}
use Rattle.search_packed.proofs.PackedSteps.{walks_done, walks_many, walks_row, span_below, steps-ten, steps_less, row_step, row_end}
use Rattle.search_packed.proofs.walk.Walk.+probe_row.Goals as goal

pub probe-row-requires : goal.probe-row-requires
probe-row-requires t c =
    let b = span_below c.args.unknown c.args.span c.if-unknown-eq0.false c.requires.0 in
    (omega arith, (b.0, omega (arith, b.1, c.requires.1)))

pub probe-returns-in-None : goal.probe-returns-in-None
unfolding walking
probe-returns-in-None t c =
    walks_done (walking_of c.args.self.now) c.args.low c.args.unknown c.args.span c.requires.0 _ (rw c.in-None.is at c.probe_and_read.ensures)

pub probe-returns-in-Some : goal.probe-returns-in-Some
unfolding walking
probe-returns-in-Some t c =
    walks_many (walking_of c.args.self.now) c.args.low c.args.unknown c.args.span c.requires.0 _ c.in-Some.many (rw c.in-Some.is at c.probe_and_read.ensures) c.if-unknown-eq0.true _ (c.push.ensures ∙ rw (c.from.ensures, c.from-in-Some.ensures) refl)

pub probe-returns-in-Some-2 : goal.probe-returns-in-Some-2
unfolding walking
probe-returns-in-Some-2 t c =
    let b = span_below c.args.unknown c.args.span c.if-unknown-eq0.false c.requires.0 in
    walks_row (walking_of c.args.self.now) c.args.low c.args.unknown c.args.span c.requires.0 _ _ (rw c.in-Some-2.is at c.probe_and_read.ensures) c.if-unknown-eq0.false _ _ b.0 c.row.ensures

pub row-loop-digit-init : goal.row-loop-digit-init
row-loop-digit-init t c = (c.requires.0, omega (arith, steps-ten c.args.span, c.requires.1), refl)

pub row-loop-digit-preserved : goal.row-loop-digit-preserved
unfolding walking
row-loop-digit-preserved t c =
    let h = c.loop-digit-test.true in
    let w = walking_of c.loop-digit.self in
    let d = c.loop-digit._digit in
    let unit = c.args.span + 1 in (
      c.loop-digit.invariant.0,
      omega (arith, steps_less d unit h),
      ap (λ (v : Walking). goes_to v (packed_row (packed_walk v.keys v.allowance c.args.below) unit (10 - (d + 1)) (c.loop-digit.first + unit) v.run)) c.probe.ensures
          ∙ ap (goes_to w) (row_step (packed_walk w.keys w.allowance c.args.below) unit c.loop-digit.first w.run d h) ∙ c.loop-digit.invariant.2,
    )

pub row-returns : goal.row-returns
unfolding walking
row-returns t c =
    let w = walking_of c.loop-digit.self in
    sym (ap (goes_to w) (row_end (packed_walk w.keys w.allowance c.args.below) (c.args.span + 1) c.loop-digit.first w.run c.loop-digit._digit c.loop-digit-test.false)) ∙ c.loop-digit.invariant.2
