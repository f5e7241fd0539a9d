use borrow.Author.Rules.{rules}
use mathlib.Core.Path.{◌≡◌, sym, ap, subst, ◌∙◌}
use native.Mathlib.Omega.{arith}
use lib.ListN.{length}
use lib.Seq.{paste}
use Rattle.numbers.specs.Values.{little}
use mathlib.Core.List.{[]}
use Rattle.segment.specs.Plain.{with_queue}
use Rattle.segment_image.specs.Image.{decode_image}
use Rattle.segment_places.specs.ProgramBecomes.{Becomes}
use Rattle.segment_places.proofs.PlaceLaws.{queue_short}
use Rattle.segment_places.proofs.ReceiveLaws.{clear_becomes}
use Rattle.segment_places.proofs.queue.empty.Goals as goal

pub fill-requires : goal.fill-requires
fill-requires c =
    let l = c.args.image.now in
    let long : length l ≡ 5974 = search rules in
    omega (arith, c.queued_of-queued.ensures, queue_short l)

pub returns : goal.returns
returns c =
    let l = c.args.image.now in
    let long : length l ≡ 5974 = search rules in
    subst (Becomes l (with_queue [] (decode_image l))) (sym (c.put_two.ensures ∙ ap (λ x. paste x 16 (little 2 0) 2) c.fill.ensures))
    (clear_becomes l long c.queued_of-queued.result c.queued_of-queued.ensures)
