use mathlib.Core.Path.{◌≡◌, sym, ap, ◌∙◌}
use mathlib.Core.List.{◌++◌}
use Prim.Native.Nat.{◌+◌, min}
use native.Mathlib.Omega.{arith}
use lib.ListN.{length, take}
use lib.Seq.{length-take-le}
use Rattle.segment_image.specs.Image.{decode_image}
use Rattle.segment_places.proofs.QueueLaws.{take_least}
use Rattle.segment_places.proofs.input.with_piece.Goals as goal

pub slice_bounds-line_of-end : goal.slice_bounds-line_of-end
slice_bounds-line_of-end c = sym (length-take-le _ _ (omega (arith, c.min-n.ensures)))

pub line_of-requires : goal.line_of-requires
line_of-requires c =
    let n = c.min-n in
    let w = length-take-le n.result c.args.piece.now (omega (arith, n.ensures)) in
    (c.waiting_of.ensures, omega (arith, n.ensures, w))

pub returns : goal.returns
returns c =
    let n = c.min-n in
    let a = c.args in
    let piece = a.piece.now in
    let s = decode_image a.image.now in
    let w = length-take-le n.result piece (omega (arith, n.ensures)) in
    let e : length s.input + min (length piece) 1024 ≡ c.waiting_of.result + length (take n.result piece) = omega (arith, n.ensures, w, c.waiting_of.ensures) in
    ap (λ k. take k c.line_of.result) e ∙ c.line_of.ensures ∙ ap (λ x. s.input ++ x) (take_least 1024 n.result piece n.ensures)
