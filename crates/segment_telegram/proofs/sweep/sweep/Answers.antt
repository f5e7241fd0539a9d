use mathlib.Core.Path.{ap}
use Prim.Native.Nat.{◌-◌}
use native.Mathlib.Omega.{arith}
use Rattle.frame.specs.View.{telegram_of}
use Rattle.time_seconds.specs.Seconds.{elapsed_of_value}
use Rattle.meter_step.specs.Hear.{hear}
use Rattle.meter_concern.proofs.ConcernLaws.{unconcerned}
use Rattle.segment_image.specs.Image.{decode_image}
use Rattle.segment_places.proofs.PlaceLaws.{meters_few}
use Rattle.segment_telegram.proofs.SweepLaws.{sweeping_origin, part_as, sweeping_none, sweeping_few, sweeping_more, sweeping_skip, sweeping_all}
use Rattle.segment_telegram.proofs.sweep.sweep.Goals as goal

pub loop-i-init : goal.loop-i-init
loop-i-init c = (omega arith, c.count_of-end.ensures, sweeping_none c.new-joining.ensures)

pub next_sought-requires : goal.next_sought-requires
next_sought-requires c = (c.loop-i.invariant.0, omega (arith, c.loop-i.invariant.1, meters_few c.args.image.now))

pub step-requires : goal.step-requires
step-requires c =
    let inv = c.loop-i.invariant in
    omega (arith, sweeping_few inv.2, inv.0, inv.1, meters_few c.args.image.now)

pub loop-i-preserved : goal.loop-i-preserved
loop-i-preserved c =
    let at = c.loop-i in
    let inv = at.invariant in
    let r = c.in-Some.ensures.skips in
    let before = c.in-Some.ensures.before in
    let a = c.args in
    let there = sweeping_skip (c.in-Some.i - at.from) (omega (arith, r.onward)) inv.2 (omega (arith, inv.1, before)) (λ j x y. unconcerned _ _ _ _ _ (r.past _ c.sought_by-q.ensures j x y)) in
    let way = ap (λ o. hear c.baud_of-bus.result (telegram_of a.frame) (elapsed_of_value a.clock.now o) a.clock) (sweeping_origin there) in
    (omega (arith, before), inv.1, sweeping_more there (omega (arith, inv.1, before)) (part_as way c.step.ensures))

pub returns : goal.returns
returns c =
    let a = c.args in
    let t = telegram_of a.frame in
    let at = c.loop-i in
    let inv = at.invariant in
    let r = c.in_default.ensures.skips in
    let end = c.count_of-end.result in
    let there = sweeping_skip (end - at.from) (omega (arith, inv.0)) inv.2 (omega (arith, inv.1)) (λ j x y. unconcerned _ _ _ _ _ (r.past _ c.sought_by-q.ensures j x y)) in
    sweeping_all t a.clock there inv.1
    (ap (λ x. hear x t (elapsed_of_value a.clock.now (decode_image a.image.now).origin) a.clock) c.baud_of-bus.ensures)
