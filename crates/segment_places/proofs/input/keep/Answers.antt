use mathlib.Core.Path.{sym, ap}
use native.Mathlib.Omega.{arith}
use lib.Seq.{length-take-le}
use Rattle.segment_places.proofs.QueueLaws.{take_least}
use Rattle.segment.specs.Plain.{with_input}
use Rattle.segment_image.specs.Image.{decode_image}
use Rattle.segment_places.proofs.Becoming.{becomes_as}
use Rattle.segment_places.proofs.input.keep.Goals as goal

pub slice_bounds-put_input-end : goal.slice_bounds-put_input-end
slice_bounds-put_input-end c = sym (length-take-le _ _ (omega arith))

pub put_input-requires : goal.put_input-requires
put_input-requires c =
    let n = c.min-n in
    omega (arith, n.ensures, length-take-le n.result c.args.rest.now (omega (arith, n.ensures)))

pub returns : goal.returns
returns c =
    let n = c.min-n in
    let a = c.args in
    becomes_as (ap (λ xs. with_input xs (decode_image a.image.now)) (take_least 260 n.result a.rest.now n.ensures)) c.put_input.ensures
