use borrow.Author.Rules.{rules}
use mathlib.Core.Path.{◌≡◌, refl, sym, ap, subst, ◌∙◌}
use lib.ListN.{length}
use lib.Seq.{paste}
use Rattle.numbers.specs.Values.{little}
use Rattle.segment.specs.Plain.{with_input}
use Rattle.segment_image.specs.Image.{decode_image}
use Rattle.segment_places.specs.ProgramBecomes.{Becomes}
use Rattle.segment_places.proofs.QueueLaws.{input_becomes}
use Rattle.segment_places.proofs.input.put_input.Goals as goal

pub returns : goal.returns
returns c =
    let l = c.args.image.now in
    let r = c.args.rest.now in
    let long : length l ≡ 5974 = search rules in
    subst (Becomes l (with_input r (decode_image l)))
    (sym
    (c.put_two.ensures
    ∙ ap (λ x. paste x 14 (little 2 (length r)) 2)
    (c.put.ensures ∙ ap (λ x. paste x 18 r (length r)) c.fill.ensures)))
    (input_becomes l r (length r) long refl c.requires)
