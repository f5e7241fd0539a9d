use mathlib.Core.Path.{ap}
use native.Mathlib.Omega.{arith}
use Rattle.segment.specs.Plain.{with_input}
use Rattle.segment_image.specs.Image.{decode_image}
use Rattle.segment_places.proofs.Becoming.{becomes_same, becomes_as}
use Rattle.segment_places.proofs.QueueLaws.{none_left}
use Rattle.segment_places.proofs.input.discard.Goals as goal

pub returns-else-waiting_of-ne0 : goal.returns-else-waiting_of-ne0
returns-else-waiting_of-ne0 c =
    let s = decode_image c.args.image.now in
    becomes_as (ap (λ xs. with_input xs s) (none_left s.input (omega (arith, c.waiting_of.ensures)))) becomes_same
