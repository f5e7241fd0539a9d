use mathlib.Core.Path.{◌≡◌, ap, ◌∙◌}
use native.Mathlib.Omega.{arith}
use lib.ListN.{length}
use Rattle.meter.specs.View.{plain_meter}
use Rattle.segment_image.proofs.MeterByteLaws.{blank-is}
use Rattle.segment_places.proofs.PlaceLaws.{meter_past}
use borrow.Author.Rules.{rules}
use Rattle.segment_places.proofs.meters.meter_at.Goals as goal

pub returns-else-i-lt-METERS : goal.returns-else-i-lt-METERS
returns-else-i-lt-METERS c =
    let a = c.args in
    let long : length a.image.now ≡ 5974 = search rules in
    ap plain_meter c.default.ensures ∙ blank-is ∙ meter_past a.image.now a.i 0 long (omega arith)
