use mathlib.Core.Path.{◌≡◌, sym, ap, ◌∙◌}
use Prim.Native.Nat.{ℕ, ◌+◌, ◌-◌}
use native.Mathlib.Omega.{arith}
use mathlib.Core.List.{List}
use lib.ListN.{length, take, drop, replicate, length-replicate, length-take, length-drop}
use lib.Seq.{take_all}
use borrow.Author.Rules.{rules}
use Rattle.segment_image.proofs.Blocks.{put_over}
use Rattle.segment_places.proofs.place.fill.Goals as goal

pub returns : goal.returns
returns c =
    let a = c.args in
    let bs : List ℕ = replicate a.n a.b in
    let part = take (a.p + a.n - a.p) (drop a.p a.image.now) in
    let e : length part ≡ a.n = simp (length-take, length-drop) (omega arith) in
    put_over _ bs _ a.p _ a.n
    (c.fill.ensures.after (search rules) ∙ ap (λ (k : ℕ). replicate k a.b) e ∙ sym (take_all a.n bs (omega (arith, length-replicate {A = ℕ} a.n a.b)))) (omega arith)
