use mathlib.Core.Path.{◌∙◌}
use Rattle.laws.proofs.Lists.{bit_from}
use Rattle.meter.specs.View.{plain_meter}
use Rattle.search.proofs.PackLaws.{mark_here, mark_away, meter_bounded}
use borrow.Author.Rules.{rules}
use Rattle.search.proofs.pack.mark_of.Goals as goal

pub returns-then-m-bus : goal.returns-then-m-bus
returns-then-m-bus c =
    let m = c.args.m in
    (mark_away c.args.bus (plain_meter m) c.if-m-bus.true, meter_bounded m (search rules) (search rules) (search rules))

pub returns : goal.returns
returns c =
    let m = c.args.m in (
      mark_here c.args.bus (plain_meter m) c.if-m-bus.false _ _ _ _ _ (c.from.ensures ∙ bit_from m.state.selected) (c.from-2.ensures ∙ bit_from m.state.hearing) c.fault_bits.ensures.0 c.from-3.ensures c.from-4.ensures,
      meter_bounded m (search rules) (search rules) (search rules),
    )
