-- `segment_image::meters::read_meter` meets its contract.
use mathlib.Core.Path.{refl, sym, ap, ◌∙◌}
use Rattle.meter.specs.View.{plain_meter}
use Rattle.segment_image.specs.MeterBytes.{decode_meter}
use Rattle.std.proofs.Common.{w16, w32}
use Rattle.numbers.proofs.LeBytes.{number_at}
use Rattle.segment_image.proofs.MeterByteLaws.{meter-is, blank-is, few, enough}
use Rattle.segment_image.proofs.meters.read_meter.Goals as goal

pub returns-then-bs-lt-METER : goal.returns-then-bs-lt-METER
returns-then-bs-lt-METER c = ap plain_meter c.default.ensures ∙ blank-is ∙ ap decode_meter (sym (few c.args.bs.now c.if-bs-lt-METER.true))

pub returns : goal.returns
returns c =
    let bs = c.args.bs.now in
    let id = c.from_le_bytes.ensures ∙ number_at w32 1 bs c.bytes_at.ensures in
    let manufacturer = c.from_le_bytes-2.ensures ∙ number_at w16 5 bs c.bytes_at-2.ensures in
    let seed = c.from_le_bytes-3.ensures ∙ number_at w32 20 bs c.bytes_at-3.ensures in
    let baud = c.from_le_bytes-4.ensures ∙ number_at w32 12 bs c.bytes_at-4.ensures in
    sym
    (meter-is bs _ refl (sym id) (sym manufacturer) refl refl (sym c.from.ensures) (sym c.from-2.ensures) refl
    (sym baud) refl refl (sym c.last.ensures) refl (sym seed) refl)
    ∙ ap decode_meter (sym (enough bs c.if-bs-lt-METER.false))
