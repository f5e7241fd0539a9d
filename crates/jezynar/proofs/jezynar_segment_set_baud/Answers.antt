-- `jezynar::jezynar_segment_set_baud` meets its contract.
use mathlib.Core.Path.{sym, subst}
use Rattle.segment.specs.Calls.{change_baud}
use Rattle.segment_image.specs.Image.{decode_image}
use Rattle.segment_image.specs.Answers.{DoneImage}
use Rattle.jezynar.proofs.jezynar_segment_set_baud.Goals as goal

pub returns : goal.returns
returns c =
    let a = c.args in
    subst (λ n. DoneImage (change_baud a.baud (decode_image a.image.now)) n a.image.now c.set_baud-answer.new.image) (sym c.number.ensures.0) c.set_baud-answer.ensures
