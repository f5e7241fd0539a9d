use borrow.Author.Rules.{rules}
use mathlib.Core.Path.{◌≡◌, ap, ◌∙◌}
use mathlib.Core.List.{◌++◌}
use Prim.Native.Nat.{◌+◌, ◌-◌}
use native.Mathlib.Omega.{arith}
use lib.ListN.{length, take, drop}
use lib.Seq.{length-take-le}
use Rattle.segment_image.specs.Image.{decode_image}
use Rattle.segment_places.proofs.PlaceLaws.{queue_short}
use Rattle.segment_places.proofs.ReceiveLaws.{out_is, lent_is}
use Rattle.segment_places.proofs.queue.copy_out.Goals as goal

pub slice_bounds-put-end : goal.slice_bounds-put-end
slice_bounds-put-end c = omega (arith, queue_short c.args.image.now)

pub returns : goal.returns
returns c =
    let a = c.args in
    let l = a.image.now in
    let long : length l ≡ 5974 = search rules in
    let out = out_is l a.n long c.requires.0 in
    let w = ap length out ∙ length-take-le a.n (decode_image l).queue c.requires.0 in
    c.put.ensures ∙ lent_is a.lent.now (take (278 + a.n - 278) (drop 278 l)) a.n w ∙ ap (λ x. x ++ drop a.n a.lent.now) out
