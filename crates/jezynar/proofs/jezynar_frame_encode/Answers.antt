-- `jezynar::jezynar_frame_encode` meets its contract.
use Rattle.jezynar.proofs.jezynar_frame_encode.Goals as goal

pub returns : goal.returns
returns c = c.encode.ensures
