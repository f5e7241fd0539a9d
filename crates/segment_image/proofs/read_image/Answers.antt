-- `segment_image::read_image` meets its contract.
use mathlib.Core.Path.{sym, ap, ◌∙◌}
use Prim.Native.Nat.{ℕ, ◌*◌, min}
use native.Mathlib.Omega.{arith}
use lib.Ieee.{binary64, of_bits}
use lib.ListN.{drop}
use Rattle.std.proofs.lemmas.List.{take_rest}
use Rattle.list_open.specs.Opening.{capacity}
use Rattle.std.proofs.Common.{w16, w32, w64}
use Rattle.numbers.proofs.LeBytes.{number_at}
use Rattle.segment_image.specs.Image.{block, meters}
use Rattle.segment_image.proofs.Blocks.{length_rest}
use Rattle.segment_image.proofs.Whole.{image_is}
use borrow.Author.Rules.{rules}
use Rattle.segment_image.proofs.read_image.Goals as goal

pub read_meters-meters-requires : goal.read_meters-meters-requires
unfolding capacity
read_meters-meters-requires c =
    (length_rest 4374 (25 * capacity) c.args.image.now (search rules), omega (arith, c.min-count.ensures))

pub returns : goal.returns
unfolding capacity
returns c =
    let bs = c.args.image.now in
    let count = c.from.ensures ∙ c.from_le_bytes.ensures ∙ number_at w16 12 bs c.bytes_at.ensures in
    let waiting = c.from-2.ensures ∙ c.from_le_bytes-2.ensures ∙ number_at w16 14 bs c.bytes_at-2.ensures in
    let queued = c.from-3.ensures ∙ c.from_le_bytes-3.ensures ∙ number_at w16 16 bs c.bytes_at-3.ensures in
    let baud = c.from_le_bytes-4.ensures ∙ number_at w32 0 bs c.bytes_at-4.ensures in
    let origin = c.from_le_bytes-5.ensures ∙ number_at w64 4 bs c.bytes_at-5.ensures in
    sym
    (image_is _ bs (sym baud) (sym (c.f64_from_bits.ensures ∙ ap (of_bits binary64) origin))
    (ap (λ (n : ℕ). block 18 n bs) (sym (c.min-waiting.ensures ∙ ap (λ (n : ℕ). min n 260) waiting)) ∙ sym c.read_part-input.ensures)
    (ap (λ (n : ℕ). block 278 n bs) (sym (c.min-queued.ensures ∙ ap (λ (n : ℕ). min n 4096) queued)) ∙ sym c.read_part-queue.ensures)
    (ap (λ (n : ℕ). meters n (drop 4374 bs)) (sym (c.min-count.ensures ∙ ap (λ (n : ℕ). min n capacity) count))
    ∙ sym (c.read_meters-meters.ensures ∙ ap (meters c.min-count.result) (take_rest bs 4374))))
