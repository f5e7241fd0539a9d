-- `jezynar::jezynar_segment_new` meets its contract.
use Rattle.jezynar.proofs.ImageLaws.{image_of}
use Rattle.jezynar.proofs.jezynar_segment_new.Goals as goal

pub returns : goal.returns
returns c = image_of c.write_image.ensures c.new-fresh.ensures
