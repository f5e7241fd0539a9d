-- `segment_image::write_parts` meets its contract.
use mathlib.Core.Path.{◌≡◌, sym, ap, ap₂, ◌∙◌}
use mathlib.Core.List.{List, ◌++◌, map}
use Prim.Native.Nat.{ℕ, ◌-◌, ◌*◌}
use native.Mathlib.Omega.{arith}
use lib.ListN.{length, take, drop, replicate, length-take}
use lib.Seq.{paste, length-take-le}
use Rattle.laws.specs.Words.{each}
use Rattle.std.proofs.lemmas.List.{take_rest}
use Rattle.laws.proofs.Sweep.{length_mapped}
use Rattle.meter.specs.View.{plain_meter}
use Rattle.segment_image.specs.MeterBytes.{encode_meter}
use Rattle.list_open.specs.Opening.{capacity}
use Rattle.segment_image.specs.Image.{meters}
use Rattle.segment_image.proofs.Blocks.{nothing_left, length_rest, paste_part}
use Rattle.segment_image.proofs.Whole.{Copies, copies}
use Rattle.segment_image.proofs.Exact.{exact}
use borrow.Author.Rules.{rules}
use Rattle.segment_image.proofs.write_parts.Goals as goal

pub write_meters-requires : goal.write_meters-requires
unfolding capacity
write_meters-requires c = (
  length_rest 4374 (25 * capacity) c.copy-3.new.to (omega (arith, c.requires.0, c.copy.auto.to, c.copy-2.auto.to, c.copy-3.auto.to)),
  simp length-take (omega (arith, c.min-count.ensures)),
)

pub returns : goal.returns
unfolding capacity
returns c =
    let long_input : length c.args.s.input ≡ 260 = search rules in
    let long_queue : length c.args.s.queue ≡ 4096 = search rules in
    let long_meters : length c.args.s.meters ≡ capacity = search (rules, length_mapped) in
    let long_head : length c.head_bytes-head.result ≡ 18 = search rules in
    let l₃ = c.copy-3.new.to in
    let long = c.requires.0 in
    let wrote = c.write_meters.ensures in
    let n = c.min-count.result in
    let few : length (take n c.args.s.meters) ≡ n = length-take-le n c.args.s.meters (omega (arith, c.min-count.ensures, long_meters)) in
    let made : Copies c.args.s _ _ _ _ c.args.bs.now _ _ l₃ _ =
    record {
      count_is = c.min-count.ensures;
      waiting_is = c.min-waiting.ensures;
      queued_is = c.min-queued.ensures;
      input_long = long_input;
      queue_long = long_queue;
      meters_long = long_meters;
      blank = c.requires.1 ∙ ap (λ (n : ℕ). replicate n 0) long;
      head_long = long_head;
      head_bytes = c.head_bytes-head.ensures.0;
      head-is = c.head_bytes-head.ensures.1;
      first = c.copy.ensures ∙ ap (paste c.args.bs.now 0 c.head_bytes-head.result) long_head;
      second = c.copy-2.ensures ∙ paste_part c.copy.new.to c.args.s.input 18 c.min-waiting.result (omega (arith, c.min-waiting.ensures, long_input));
      third = c.copy-3.ensures ∙ paste_part c.copy-2.new.to c.args.s.queue 278 c.min-queued.result (omega (arith, c.min-queued.ensures, long_queue));
      ms_long = c.write_meters.auto.bs ∙ length_rest 4374 (25 * capacity) l₃ (omega (arith, long, c.copy.auto.to, c.copy-2.auto.to, c.copy-3.auto.to));
      rows_are = wrote.0 ∙ ap₂ (λ (k : ℕ) (l : List ℕ). each (map plain_meter (take n c.args.s.meters)) encode_meter ++ drop (25 * k) l) few (take_rest l₃ 4374);
      last = ap (λ (k : ℕ). meters k c.write_meters.new.bs) (sym few) ∙ wrote.1;
    } in
    let end = drop (length l₃ - 4374) (drop 4374 l₃) in
    record {
      bytes = exact made end (nothing_left 4374 l₃);
      means = copies made end;
    }
