use mathlib.Core.Path.{ap}
use mathlib.Core.List.{[]}
use Rattle.segment.specs.Plain.{with_input}
use Rattle.segment_calls.proofs.BaudLaws.{baud_refused, baud_set}
use Rattle.segment_image.specs.Image.{decode_image}
use Rattle.segment_places.proofs.Becoming.{becomes_as, becomes_then, done_none, done_becomes}
use Rattle.segment_calls.proofs.set_baud.Goals as goal

pub returns-then-not-is_rate : goal.returns-then-not-is_rate
returns-then-not-is_rate c =
    let a = c.args in
    done_none 10 (baud_refused a.baud (decode_image a.image.now) c.is_rate.ensures c.if-not-is_rate.true)

pub returns : goal.returns
returns c =
    let a = c.args in
    let l = a.image.now in
    let b = c.put_baud.ensures in
    done_becomes (baud_set a.baud (decode_image l) c.is_rate.ensures c.if-not-is_rate.false) (becomes_then b (becomes_as (ap (with_input []) b.means) c.discard.ensures))
