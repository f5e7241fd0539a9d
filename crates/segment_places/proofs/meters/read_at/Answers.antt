use mathlib.Core.Path.{◌≡◌, ap, ◌∙◌}
use Prim.Native.Nat.{ℕ, ◌+◌, ◌*◌, ◌-◌, ◌≤◌}
use native.Mathlib.Omega.{arith}
use lib.ListN.{length, take, drop, length-take, length-drop}
use borrow.Author.Rules.{rules}
use Rattle.segment_image.specs.MeterBytes.{decode_meter}
use Rattle.segment_image.proofs.MeterByteLaws.{enough}
use Rattle.segment_places.proofs.meters.read_at.Goals as goal

pub returns : goal.returns
returns c =
    let a = c.args in
    let p = 4374 + 25 * a.i in
    let l = a.image.now in
    let long : length l ≡ 5974 = search rules in
    let e : p + 25 - p ≡ 25 = omega arith in
    let part = take (p + 25 - p) (drop p l) in
    let h : 25 ≤ length part = simp (length-take, length-drop) (omega arith) in
    c.read_meter.ensures ∙ ap decode_meter (enough part h) ∙ ap (λ (k : ℕ). decode_meter (take k (drop p l))) e
