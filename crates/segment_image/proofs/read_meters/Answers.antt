-- `segment_image::read_meters` meets its contract.
use mathlib.Core.Path.{◌≡◌, ap, ◌∙◌}
use Prim.Native.Nat.{ℕ, ◌+◌, ◌*◌, ◌-◌, ◌≤◌}
use native.Mathlib.Omega.{arith}
use lib.ListN.{length, take, drop, length-take, length-drop, length-set}
use borrow.Author.Rules.{rules}
use Rattle.list_open.specs.Opening.{capacity}
use Rattle.segment_image.specs.MeterBytes.{decode_meter}
use Rattle.segment_image.proofs.MeterByteLaws.{enough}
use Rattle.segment_image.proofs.MeterLaws.{got_none, got_more, got_all}
use Rattle.segment_image.proofs.read_meters.Goals as goal

pub loop-i-init : goal.loop-i-init
unfolding capacity
loop-i-init c = (search rules, got_none)

pub bounds-meters-i : goal.bounds-meters-i
unfolding capacity
bounds-meters-i c = omega arith

pub loop-i-preserved : goal.loop-i-preserved
loop-i-preserved c =
    let a = c.args in
    let at = c.loop-i in
    let inv = at.invariant in
    let e : 25 * at.i + 25 - 25 * at.i ≡ 25 = omega arith in
    let part = take (25 * at.i + 25 - 25 * at.i) (drop (25 * at.i) a.bs.now) in
    let h : 25 ≤ length part = simp (length-take, length-drop) (omega arith) in (
      simp length-set inv.0,
      got_more c.read_meter.result inv.1 (omega arith)
          (c.read_meter.ensures ∙ ap decode_meter (enough part h) ∙ ap (λ (k : ℕ). decode_meter (take k (drop (25 * at.i) a.bs.now))) e),
    )

pub returns : goal.returns
returns c = got_all c.args.count c.loop-i.invariant.1 (omega arith)
