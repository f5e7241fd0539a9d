use mathlib.Core.Path.{ap, ◌∙◌}
use Prim.Native.Nat.{min}
use lib.ListN.{drop}
use Rattle.std.proofs.lemmas.List.{drop_min}
use Rattle.segment.specs.Plain.{with_queue}
use Rattle.segment_image.specs.Image.{decode_image}
use Rattle.segment_places.proofs.Becoming.{becomes_as}
use Rattle.segment_places.proofs.queue.take_out.Goals as goal

pub returns : goal.returns
returns c =
    let a = c.args in
    let s = decode_image a.image.now in
    becomes_as (ap (λ xs. with_queue xs s) (ap (λ k. drop k s.queue) (c.min.ensures ∙ ap (min a.n) c.queued_of-queued.ensures) ∙ drop_min a.n s.queue)) c.shorten.ensures
