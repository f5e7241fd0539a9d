use mathlib.Core.Path.{◌≡◌, sym, ap, subst, ◌∙◌}
use Prim.Native.Nat.{◌+◌, ◌*◌}
use native.Mathlib.Omega.{arith}
use lib.ListN.{length, set}
use lib.Seq.{paste}
use borrow.Author.Rules.{rules}
use Rattle.list_open.specs.Opening.{capacity}
use Rattle.meter.specs.View.{plain_meter}
use Rattle.segment_image.specs.MeterBytes.{decode_meter}
use Rattle.segment.specs.Plain.{with_meters}
use Rattle.segment_image.specs.Image.{decode_image}
use Rattle.segment_places.specs.ProgramBecomes.{Becomes}
use Rattle.segment_places.proofs.PlaceLaws.{meters_few, meter_becomes}
use Rattle.segment_places.proofs.meters.put_at.Goals as goal

pub overflow_mul-i : goal.overflow_mul-i
overflow_mul-i c = omega (arith, meters_few c.args.image.now)

pub overflow_add-i : goal.overflow_add-i
overflow_add-i c = omega (arith, meters_few c.args.image.now)

pub put-requires : goal.put-requires
put-requires c =
    let l = c.args.image.now in
    let long : length l ≡ 5974 = search rules in
    let w : length c.meter_bytes-b.result ≡ 25 = search rules in
    omega (arith, meters_few l)

pub returns : goal.returns
unfolding capacity
returns c =
    let a = c.args in
    let l = a.image.now in
    let m = plain_meter a.m in
    let p = 4374 + 25 * a.i in
    let b = c.meter_bytes-b.result in
    let said = c.meter_bytes-b.ensures in
    let long : length l ≡ 5974 = search rules in
    let w : length b ≡ 25 = search rules in
    subst (Becomes l (with_meters (set (decode_image l).meters a.i m) (decode_image l))) (sym (c.put.ensures ∙ ap (paste l p b) w ∙ ap (λ x. paste l p x 25) said.0))
    (meter_becomes l long a.i m c.requires (ap decode_meter (sym said.0) ∙ said.1))
