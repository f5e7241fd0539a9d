use borrow.Author.Rules.{rules}
use mathlib.Core.Path.{◌≡◌, sym, ap, subst, ◌∙◌}
use lib.ListN.{length}
use lib.Seq.{paste}
use Rattle.std.proofs.Common.{w32}
use Rattle.numbers.proofs.LeBytes.{little_bytes}
use Rattle.segment_image.specs.Image.{decode_image}
use Rattle.segment_places.specs.ProgramBecomes.{Becomes}
use Rattle.segment.specs.Plain.{with_baud_value}
use Rattle.segment_places.proofs.BaudLaws.{baud_becomes}
use Rattle.segment_places.proofs.head.put_baud.Goals as goal

pub returns : goal.returns
returns c =
    let l = c.args.image.now in
    let long : length l ≡ 5974 = search rules in
    let w : length c.to_le_bytes-b.result ≡ 4 = search rules in
    subst (Becomes l (with_baud_value c.args.baud (decode_image l))) (sym (c.put.ensures ∙ ap (paste l 0 c.to_le_bytes-b.result) w ∙ ap (λ x. paste l 0 x 4) (c.to_le_bytes-b.ensures ∙ little_bytes w32 c.args.baud)))
    (baud_becomes l long c.args.baud (search rules))
