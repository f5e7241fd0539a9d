use mathlib.Core.Path.{◌≡◌, sym, ap, ◌∙◌}
use mathlib.Core.List.{◌++◌}
use Prim.Native.Nat.{◌+◌, min}
use native.Mathlib.Omega.{arith}
use lib.ListN.{length, take}
use lib.Seq.{length-take-le, take_all}
use Rattle.segment.specs.Plain.{with_input}
use Rattle.segment_send.specs.Steps.{handled_all}
use Rattle.segment_image.specs.Image.{decode_image}
use Rattle.segment_places.proofs.PlaceLaws.{input_short}
use Rattle.segment_send.proofs.DoneLaws.{comes_as}
use borrow.Author.Rules.{rules}
use Rattle.segment_send.proofs.handle_joined.Goals as goal

pub overflow_add-end : goal.overflow_add-end
overflow_add-end c = record { fits = omega (arith, c.waiting_of.ensures, input_short c.args.image.now, c.requires) }

pub slice_bounds-line-end : goal.slice_bounds-line-end
slice_bounds-line-end c =
    let room : length c.with_piece-line.result ≡ 1284 = search rules in
    omega (arith, c.waiting_of.ensures, input_short c.args.image.now, c.requires)

pub slice_bounds-handle_all-end : goal.slice_bounds-handle_all-end
slice_bounds-handle_all-end c =
    let room : length c.with_piece-line.result ≡ 1284 = search rules in
    sym (length-take-le _ _ (omega (arith, c.waiting_of.ensures, input_short c.args.image.now, c.requires)))

pub returns : goal.returns
returns c =
    let piece = c.args.piece.now in
    let p = decode_image c.args.image.now in
    let w = c.waiting_of in
    let j = c.with_piece-line in
    let e : w.result + length piece ≡ length p.input + min (length piece) 1024 = omega (arith, w.ensures, c.requires) in
    let line : take (w.result + length piece) j.result ≡ p.input ++ piece = ap (λ k. take k j.result) e ∙ j.ensures ∙ ap (λ x. p.input ++ x) (take_all 1024 piece c.requires) in
    comes_as (ap (λ x. handled_all c.args.clock (with_input x p)) line) c.handle_all.ensures
