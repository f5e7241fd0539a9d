use mathlib.Core.Path.{ap, ◌∙◌}
use native.Mathlib.Omega.{arith}
use borrow.Author.Rules.{rules}
use lib.ListN.{get_or}
use Rattle.meter.specs.View.{plain_meter}
use Rattle.segment_places.proofs.PlaceLaws.{meters_few}
use Rattle.search.specs.ProgramPacking.{seen_as}
use Rattle.search.proofs.PackLaws.{unmarked-none, unmarked_more, unmarked_all}
use Rattle.search.proofs.pack.unmark_all.Goals as goal

pub loop-i-init : goal.loop-i-init
loop-i-init c =
    record {
      few = omega (arith, c.count_of-i-end.ensures, meters_few c.args.image.now);
      end = c.count_of-i-end.ensures;
      places = search rules;
      unmarked = unmarked-none;
    }

pub loop-i-preserved : goal.loop-i-preserved
loop-i-preserved c =
    let inv = c.loop-i.invariant in
    let marks = c.args.marks in
    let r = c.meter_at-m.result in
    record {
      few = inv.few;
      end = inv.end;
      places = inv.places;
      unmarked =
          unmarked_more inv.unmarked r c.unmark-k.result (omega arith) (omega arith) c.meter_at-m.ensures
          (c.unmark-k.ensures ∙ ap (λ bus. seen_as bus (plain_meter r) (get_or marks c.loop-i.i 0)) c.baud_of-bus.ensures) c.put_meter.ensures;
    }

pub returns : goal.returns
returns c = unmarked_all c.loop-i.invariant.unmarked (omega arith)
