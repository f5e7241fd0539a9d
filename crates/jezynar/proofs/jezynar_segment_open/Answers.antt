-- `jezynar::jezynar_segment_open` meets its contract.
use native.Mathlib.Omega.{arith}
use mathlib.Core.Path.{◌≡◌, sym, ◌∙◌}
use Prim.Native.Nat.{◌/◌, ◌%◌}
use Rattle.list_check.specs.Refusals.{refusal_number_value, refusal_index_value}
use Rattle.jezynar.proofs.ImageLaws.{opening_index}
use Rattle.jezynar.proofs.jezynar_segment_open.Goals as goal

pub packed-requires : goal.packed-requires
packed-requires c =
    let a = c.args in
    opening_index a.list.now a.baud a.practice c.open-answer.ensures.index_is

pub returns : goal.returns
returns c =
    let r = c.open-answer.result in
    let o = c.open-answer.ensures in
    let e = c.packed.ensures.0 in
    let small = c.packed.ensures.1 in
    let n : refusal_number_value r ≡ c.packed.result % 256 = omega (arith, e, small) in
    let i : refusal_index_value r ≡ c.packed.result / 256 = omega (arith, e, small) in
    record {
      number_is = sym n ∙ o.number_is;
      index_is = sym i ∙ o.index_is;
      segment = o.segment;
      bytes = λ z. o.bytes (omega (arith, n, z));
      kept = λ z. o.kept (omega (arith, n, z));
    }
