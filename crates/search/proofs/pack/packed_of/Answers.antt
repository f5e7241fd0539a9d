use mathlib.Core.Path.{refl, sym, ap, ◌∙◌}
use native.Mathlib.Omega.{arith}
use borrow.Author.Rules.{rules}
use Rattle.meter.specs.View.{plain_meter}
use Rattle.list_open.specs.Opening.{capacity}
use Rattle.segment_places.proofs.PlaceLaws.{meters_few}
use Rattle.search.specs.ProgramPacking.{mark_of_value, Bounded}
use Rattle.search.proofs.KeyDigits.{id_key}
use Rattle.search.proofs.PackLaws.{mapped_none, packed_more, packed_all, read_more, read_all}
use Rattle.search.proofs.pack.packed_of.Goals as goal

pub loop-i-init : goal.loop-i-init
loop-i-init c =
    record {
      few = omega (arith, c.count_of-i-end.ensures, meters_few c.args.image.now);
      end = c.count_of-i-end.ensures;
      places = (refl, refl);
      keys = mapped_none;
      marks = mapped_none;
      bounded = tt;
    }

pub loop-i-preserved : goal.loop-i-preserved
loop-i-preserved c =
    let inv = c.loop-i.invariant in
    let image = c.args.image.now in
    let r = c.meter_at-m.result in
    let there = c.meter_at-m.ensures in
    record {
      few = inv.few;
      end = inv.end;
      places = inv.places;
      keys = packed_more image inv.keys r (omega arith) (omega arith) there (sym (id_key r.built.id (search rules)));
      marks = packed_more image inv.marks r (omega arith) (omega arith) there (c.mark_of.ensures.0 ∙ ap (λ bus. mark_of_value bus (plain_meter r)) c.baud_of-bus.ensures);
      bounded = read_more image Bounded c.loop-i.i inv.bounded r (omega arith) there c.mark_of.ensures.1;
    }

pub returns-clause-keys : goal.returns-clause-keys
unfolding capacity
returns-clause-keys c = packed_all c.args.image.now c.loop-i.invariant.keys (omega arith) refl

pub returns-clause-marks : goal.returns-clause-marks
unfolding capacity
returns-clause-marks c = packed_all c.args.image.now c.loop-i.invariant.marks (omega arith) refl

pub returns-clause-bounded : goal.returns-clause-bounded
returns-clause-bounded c = read_all c.args.image.now Bounded c.loop-i.i c.loop-i.invariant.bounded (omega arith)
