use mathlib.Core.Path.{sym, ap}
use native.Mathlib.Omega.{arith}
use Rattle.std.proofs.lemmas.List.{set_past}
use Rattle.segment.specs.Plain.{with_meters}
use Rattle.meter.specs.View.{plain_meter}
use Rattle.segment_image.specs.Image.{decode_image}
use Rattle.segment_places.proofs.Becoming.{becomes_same, becomes_as}
use Rattle.segment_places.proofs.meters.put_meter.Goals as goal

pub returns-else-i-count_of : goal.returns-else-i-count_of
returns-else-i-count_of c =
    let a = c.args in
    let s = decode_image a.image.now in
    becomes_as (ap (λ ms. with_meters ms s) (sym (set_past s.meters a.i (plain_meter a.m) (omega (arith, c.count_of.ensures))))) becomes_same
