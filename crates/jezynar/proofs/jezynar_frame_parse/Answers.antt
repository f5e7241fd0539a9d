-- `jezynar::jezynar_frame_parse` meets its contract.
use Rattle.jezynar.proofs.jezynar_frame_parse.Goals as goal

pub returns : goal.returns
returns c = c.parse.ensures
