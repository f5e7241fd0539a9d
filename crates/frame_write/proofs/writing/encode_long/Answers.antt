use Rattle.frame.specs.Frame.{long}
use Rattle.frame_write.proofs.WritingLaws.{write_too_long, write_no_room, write-fits}
use Rattle.frame.proofs.RoundTrip.{length_long}
use Rattle.frame_write.proofs.writing.encode_long.Goals as goal

pub returns-then-n-gt252 : goal.returns-then-n-gt252
returns-then-n-gt252 c =
    let a = c.args in
    write_too_long (long a.control a.address a.ci a.«data».now) _ c.if-n-gt252.true

pub returns-then-lent-n : goal.returns-then-lent-n
returns-then-lent-n c =
    let a = c.args in
    write_no_room (long a.control a.address a.ci a.«data».now) _ _ (length_long a.control a.address a.ci a.«data».now) c.if-n-gt252.false c.if-lent-n.true

pub returns : goal.returns
returns c =
    let a = c.args in
    write-fits (long a.control a.address a.ci a.«data».now) _ _ _ (length_long a.control a.address a.ci a.«data».now)
    c.if-n-gt252.false c.if-lent-n.false c.put_long.ensures
