use mathlib.Core.Path.{◌≡◌, ap, ◌∙◌}
use Prim.Native.Nat.{◌+◌, ◌-◌}
use native.Mathlib.Omega.{arith}
use lib.ListN.{drop}
use lib.Seq.{paste}
use Rattle.segment_places.proofs.queue.shift.Goals as goal

pub returns : goal.returns
returns c =
    let a = c.args in
    let e : 278 + a.n + a.m - (278 + a.n) ≡ a.m = omega arith in
    c.copy_within.ensures.after ∙ ap (paste a.image.now 278 (drop (278 + a.n) a.image.now)) e
