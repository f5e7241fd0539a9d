-- `segment_calls::open` meets its contract.
use mathlib.Core.Path.{refl, ap, ◌∙◌}
use native.Mathlib.Omega.{arith}
use mathlib.Core.List.{[]}
use Rattle.std.proofs.lemmas.Result.{err_from_is_err_and}
use Rattle.segment_image.specs.Image.{decode_image, encode_image}
use Rattle.segment_calls.proofs.OpenLaws.{refused-number, opening_accepted, opening_refused}
use Rattle.segment_calls.proofs.open.Goals as goal

pub returns-in_err-meters : goal.returns-in_err-meters
returns-in_err-meters c =
    let a = c.args in
    let p = err_from_is_err_and c.from_residual.result c.from_residual.ensures.1 in
    let m = c.in_err-meters.ensures in
    rw (p.1, p.2)
    record {
      number_is = m.number;
      index_is = m.index;
      segment = opening_refused a.list.now a.baud a.practice a.origin (decode_image a.image.now) c.in_err-meters.field-0.0 m.number;
      bytes = λ z. absurd (omega (arith, refused-number c.in_err-meters.field-0.0));
      kept = λ z. refl;
    }

pub returns : goal.returns
returns c =
    let a = c.args in
    let m = c.in_ok-meters.ensures in
    let w = c.write_image.ensures in
    let o = c.opened in
    let p =
    o.ensures
    ∙ ap (λ ms. record { baud = a.baud; origin = a.origin; input = []; queue = []; meters = ms }) m.meters
    ∙ opening_accepted a.list.now a.baud a.practice a.origin (decode_image a.image.now) m.number in
    record {
      number_is = m.number;
      index_is = m.index;
      segment = w.means ∙ p;
      bytes = λ z. w.bytes ∙ ap encode_image p;
      kept = λ z. absurd (omega arith);
    }
