use Rattle.std.specs.Prelude.{if◌then◌else◌}
use mathlib.Core.Path.{◌≡◌, sym, subst}
use native.Mathlib.Omega.{arith}
use lib.ListN.{length, take, replicate}
use lib.Seq.{length-take-le}
use Rattle.segment_places.specs.ProgramBecomes.{Queues}
use borrow.Author.Rules.{rules}
use Rattle.segment_telegram.proofs.queue_reply.Goals as goal

pub returns-then-joining : goal.returns-then-joining
returns-then-joining c =
    let j = c.args.joining.now in
    subst (λ b. Queues (if b then replicate j.count 0xE5 else take j.len j.bytes) c.args.image.now c.append_same.result c.append_same.new.image)
    (sym c.if-joining.true) c.append_same.ensures

pub slice_bounds-append-end : goal.slice_bounds-append-end
slice_bounds-append-end c =
    let j = c.args.joining.now in
    let long : length j.bytes ≡ 96 = search rules in
    sym (length-take-le j.len j.bytes (omega (arith, c.requires)))

pub returns-else-joining : goal.returns-else-joining
returns-else-joining c =
    let j = c.args.joining.now in
    subst (λ b. Queues (if b then replicate j.count 0xE5 else take j.len j.bytes) c.args.image.now c.append.result c.append.new.image)
    (sym c.if-joining.false) c.append.ensures
