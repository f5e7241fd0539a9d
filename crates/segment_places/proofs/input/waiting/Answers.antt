use native.Mathlib.Omega.{arith}
use Rattle.segment_places.proofs.PlaceLaws.{input_short}
use Rattle.segment_places.proofs.LineLaws.{input_is}
use borrow.Author.Rules.{rules}
use Rattle.segment_places.proofs.input.waiting.Goals as goal

pub overflow_add-result : goal.overflow_add-result
overflow_add-result c = omega (arith, c.waiting_of-n.ensures, input_short c.args.image.now)

pub slice_bounds-result-end : goal.slice_bounds-result-end
slice_bounds-result-end c = omega (arith, c.waiting_of-n.ensures, input_short c.args.image.now)

pub returns : goal.returns
returns c =
    let w = c.waiting_of-n in
    input_is c.args.image.now w.result (search rules) w.ensures
