use Rattle.std.proofs.Common.{◌≡◌, ◌+◌, length, refl, ap, ◌∙◌, arith, rules}
use Rattle.frame_write.proofs.WritingLaws.{write_no_room, write-fits}
use Rattle.frame_write.proofs.writing.write_front.Goals as goal

pub returns-then-lent : goal.returns-then-lent
returns-then-lent g c = λ t e h.
    let n : length c.args.bytes ≡ g.row.N = search rules in
    write_no_room t _ _ (ap length e ∙ n) h c.if-lent.true

pub returns : goal.returns
returns g c = λ t e h.
    let n : length c.args.bytes ≡ g.row.N = search rules in
    let z : 0 + g.row.N ≡ g.row.N = omega arith in
    write-fits t _ _ _ (ap length e ∙ n) h c.if-lent.false (c.put.ensures ∙ rw (n, z, e) refl)
