-- `segment_image::copying::copy` meets its contract.
use mathlib.Core.Path.{◌∙◌, sym}
use native.Mathlib.Omega.{arith}
use lib.Seq.{take-length}
use Rattle.segment_image.proofs.Blocks.{put_over}
use Rattle.segment_image.proofs.copying.copy.Goals as goal

pub returns : goal.returns
returns c =
    let a = c.args in
    put_over _ a.from.now _ a.p _ _ (c.copy_from_slice.ensures.after ∙ sym (take-length a.from.now)) (omega arith)
