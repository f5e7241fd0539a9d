use borrow.Author.Rules.{rules}
use mathlib.Core.Path.{◌≡◌, sym, ap, subst, ◌∙◌}
use Prim.Native.Nat.{◌+◌, ◌-◌}
use native.Mathlib.Omega.{arith}
use lib.ListN.{length, drop, replicate}
use lib.Seq.{paste}
use Rattle.numbers.specs.Values.{little}
use Rattle.segment.specs.Plain.{with_queue}
use Rattle.segment_image.specs.Image.{decode_image}
use Rattle.segment_places.specs.ProgramBecomes.{Becomes}
use Rattle.segment_places.proofs.PlaceLaws.{queue_short}
use Rattle.segment_places.proofs.ReceiveLaws.{take_becomes}
use Rattle.segment_places.proofs.queue.shorten.Goals as goal

pub shift-requires : goal.shift-requires
shift-requires c =
    let l = c.args.image.now in
    let long : length l ≡ 5974 = search rules in
    omega (arith, queue_short l)

pub overflow_add-m : goal.overflow_add-m
overflow_add-m c = omega (arith, queue_short c.args.image.now)

pub fill-requires : goal.fill-requires
fill-requires c =
    let long : length c.shift.new.image ≡ 5974 = search rules in
    omega (arith, queue_short c.args.image.now)

pub returns : goal.returns
returns c =
    let a = c.args in
    let l = a.image.now in
    let m = a.queued - a.n in
    let long : length l ≡ 5974 = search rules in
    subst (Becomes l (with_queue (drop a.n (decode_image l).queue) (decode_image l)))
    (sym (c.put_two.ensures ∙ ap (λ x. paste x 16 (little 2 m) 2) (c.fill.ensures ∙ ap (λ x. paste x (278 + m) (replicate a.n 0) a.n) c.shift.ensures)))
    (take_becomes l long a.queued a.n c.requires.0 c.requires.1)
