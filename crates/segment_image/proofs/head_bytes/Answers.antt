-- `segment_image::head_bytes` meets its contract.
use mathlib.Core.Path.{sym, ap, ◌∙◌, subst}
use lib.Dec.{T}
use lib.Ieee.{binary64, fits, of_bits}
use lib.Ieee.Bits.{of_bits-to_bits}
use Rattle.numbers.specs.Values.{little}
use Rattle.numbers.specs.Number.{number}
use Rattle.std.proofs.Common.{w16, w32, w64}
use Rattle.numbers.proofs.LeBytes.{little_bytes}
use Rattle.numbers.proofs.NumberLaws.{number-little}
use Rattle.segment_image.proofs.HeadLaws.{head-is}
use borrow.Author.Rules.{rules}
use Rattle.segment_image.proofs.head_bytes.Goals as goal

pub returns : goal.returns
unfolding number
returns c =
    let held : T (fits binary64 c.args.origin) = subst T (sym c.well_formed.1.0.1) tt in
    let baud = c.to_le_bytes-b.ensures ∙ little_bytes w32 c.args.baud in
    let bits = c.f64_bits.ensures in
    let origin = c.to_le_bytes-o.ensures ∙ little_bytes w64 c.f64_bits.result in
    let count = c.to_le_bytes-c.ensures ∙ little_bytes w16 c.args.count in
    let waiting = c.to_le_bytes-w.ensures ∙ little_bytes w16 c.args.waiting in
    let queued = c.to_le_bytes-q.ensures ∙ little_bytes w16 c.args.queued in (
      head-is c.args.baud c.args.origin c.args.count c.args.waiting c.args.queued _ _ _ _ _ baud (origin ∙ ap (little 8) bits) count waiting queued,
      record {
        baud_at = ap (number 4 0) baud ∙ number-little 4 c.args.baud (search rules);
        origin_at = ap (of_bits binary64) (ap (number 8 0) origin ∙ number-little 8 c.f64_bits.result (search rules) ∙ bits) ∙ of_bits-to_bits binary64 c.args.origin held;
        count_at = ap (number 2 0) count ∙ number-little 2 c.args.count (search rules);
        waiting_at = ap (number 2 0) waiting ∙ number-little 2 c.args.waiting (search rules);
        queued_at = ap (number 2 0) queued ∙ number-little 2 c.args.queued (search rules);
      },
    )
