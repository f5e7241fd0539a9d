use borrow.Author.Rules.{rules}
use mathlib.Core.Path.{◌≡◌, sym, ap, ◌∙◌}
use mathlib.Core.List.{◌++◌}
use Prim.Native.Nat.{ℕ, ◌+◌, ◌-◌}
use native.Mathlib.Omega.{arith}
use lib.ListN.{length, take, drop, replicate, length-replicate}
use lib.Seq.{paste}
use Rattle.segment_image.specs.Image.{decode_image}
use Rattle.segment_places.proofs.PlaceLaws.{input_short}
use Rattle.segment_places.proofs.LineLaws.{input_is, line_long, line-is}
use Rattle.segment_places.proofs.input.line_of.Goals as goal

pub overflow_add-waiting : goal.overflow_add-waiting
overflow_add-waiting c = omega (arith, input_short c.args.image.now)

pub slice_bounds-put-end-2 : goal.slice_bounds-put-end-2
slice_bounds-put-end-2 c = omega (arith, input_short c.args.image.now)

pub put-requires : goal.put-requires
put-requires c =
    let waits : let a = c.args in
    take (18 + a.waiting - 18) (drop 18 a.image.now) ≡ (decode_image a.image.now).input = input_is c.args.image.now c.args.waiting (search rules) c.requires.0 in
    let room : length {A = ℕ} (replicate 1284 0) ≡ 1284 = length-replicate {A = ℕ} 1284 0 in
    omega (arith, ap length waits, input_short c.args.image.now)

pub put-requires-2 : goal.put-requires-2
put-requires-2 c =
    let waits : let a = c.args in
    take (18 + a.waiting - 18) (drop 18 a.image.now) ≡ (decode_image a.image.now).input = input_is c.args.image.now c.args.waiting (search rules) c.requires.0 in
    let room : length {A = ℕ} (replicate 1284 0) ≡ 1284 = length-replicate {A = ℕ} 1284 0 in
    let e = ap length waits in
    let few = input_short c.args.image.now in
    let first = take (18 + c.args.waiting - 18) (drop 18 c.args.image.now) in
    omega (arith, ap length c.put.ensures, line_long (replicate 1284 0) first c.args.piece.now c.args.waiting (c.requires.0 ∙ sym e) (omega arith))

pub returns : goal.returns
returns c =
    let waits : let a = c.args in
    take (18 + a.waiting - 18) (drop 18 a.image.now) ≡ (decode_image a.image.now).input = input_is c.args.image.now c.args.waiting (search rules) c.requires.0 in
    let b = replicate 1284 0 in
    let room : length b ≡ 1284 = length-replicate {A = ℕ} 1284 0 in
    let e = ap length waits in
    let few = input_short c.args.image.now in
    let piece = c.args.piece.now in
    let n = c.args.waiting in
    let first = take (18 + n - 18) (drop 18 c.args.image.now) in
    ap (take (n + length piece)) (c.put-2.ensures ∙ ap (λ x. paste x n piece (length piece)) c.put.ensures)
    ∙ line-is b first piece n (c.requires.0 ∙ sym e) (omega arith)
    ∙ ap (λ x. x ++ piece) waits
