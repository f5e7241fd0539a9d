use Rattle.std.proofs.Common.{◌+◌, sym, ap, ◌∙◌, ⊎_elim, arith}
use Rattle.frame.specs.Frame.{complete, incomplete}
use Rattle.frame.proofs.Cases.{long_few, long_lengths, long_start, long_below, whole_at, summed, long_sum_lem, long_stop, long_whole}
use Rattle.frame.proofs.RoundTrip.{parse_long_waits}
use Rattle.frame.proofs.parse_long.Goals as goal

pub returns-in_default : goal.returns-in_default
returns-in_default c = sym (long_few _ c.in_default.len_below)

pub returns-then-start-ne-START_LONG : goal.returns-then-start-ne-START_LONG
returns-then-start-ne-START_LONG c =
    let n = c.in-len4-up.len_at_least in
    sym (⊎_elim (λ a. long_lengths _ n a) (λ b. long_start _ n b.0 b.1) c.if-start-ne-START_LONG.either)

pub returns-then-l-lt3 : goal.returns-then-l-lt3
returns-then-l-lt3 c =
    let head = c.if-start-ne-START_LONG.false in
    sym (long_below _ c.in-len4-up.len_at_least head.0 head.1 (omega (arith, c.from-l.ensures, c.if-l-lt3.true)))

pub returns-then-s-all : goal.returns-then-s-all
returns-then-s-all c =
    let head = c.if-start-ne-START_LONG.false in
    let l = c.from-l.ensures in
    ap incomplete (omega (arith, l)) ∙ sym (parse_long_waits _ c.in-len4-up.len_at_least head.0 head.1 (omega (arith, l, c.if-l-lt3.false)) (omega (arith, l, c.if-s-all.true)))

pub returns-then-s-l : goal.returns-then-s-l
returns-then-s-l c =
    let whole = whole_at _ _ c.from-l.ensures c.if-start-ne-START_LONG.false c.if-l-lt3.false c.if-s-all.false in
    sym (long_sum_lem _ _ whole (λ e. c.if-s-l.true (e ∙ sym (summed c.args.s.now _ c.checksum.ensures))))

pub returns-then-s-l-ne-STOP : goal.returns-then-s-l-ne-STOP
returns-then-s-l-ne-STOP c =
    let whole = whole_at _ _ c.from-l.ensures c.if-start-ne-START_LONG.false c.if-l-lt3.false c.if-s-all.false in
    sym (long_stop _ _ whole (c.if-s-l.false ∙ summed c.args.s.now _ c.checksum.ensures) c.if-s-l-ne-STOP.true)

pub returns-else-s-l-ne-STOP : goal.returns-else-s-l-ne-STOP
returns-else-s-l-ne-STOP c =
    let whole = whole_at _ _ c.from-l.ensures c.if-start-ne-START_LONG.false c.if-l-lt3.false c.if-s-all.false in
    ap (λ t. complete t (c.from-l.result + 6)) c.long_frame.ensures ∙ long_whole _ _ whole (c.if-s-l.false ∙ summed c.args.s.now _ c.checksum.ensures) c.if-s-l-ne-STOP.false
