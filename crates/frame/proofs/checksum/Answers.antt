use Rattle.std.proofs.Common.{◌+◌, ◌%◌, ◌^◌, get_or, sym, ap, ◌∙◌, arith}
use Rattle.frame.proofs.Cases.{sum-none, sum_more}
use Rattle.frame.proofs.checksum.Goals as goal

pub loop-byte-init : goal.loop-byte-init
loop-byte-init c = sym sum-none

pub loop-byte-preserved : goal.loop-byte-preserved
loop-byte-preserved c =
    let at = c.loop-byte in
    let s = c.args.bytes.now in
    ap (λ t. (t + get_or s at.byte-index 0) % 2 ^ 8) at.invariant ∙ sym (sum_more s at.byte-index (omega arith))
