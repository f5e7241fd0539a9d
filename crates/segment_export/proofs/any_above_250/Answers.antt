-- `segment_export::any_above_250` meets its contract.
use borrow.Author.Rules.{rules}
use borrow.Author.Tests.{tests}
use mathlib.Core.Path.{refl, ◌∙◌}
use native.Mathlib.Omega.{arith}
use lib.Dec.{ltb}
use Rattle.std.proofs.lemmas.Iterator.{YieldsList-from_range}
use Rattle.std.proofs.lemmas.Iterator.Search.{any_from_yields_List}
use Rattle.segment_places.specs.ProgramBecomes.{meter_in}
use Rattle.segment_export.proofs.HighLaws.{above_in}
use Rattle.segment_export.proofs.any_above_250.Goals as goal

pub returns : goal.returns
returns c =
    any_from_yields_List (λ i. ltb 250 (meter_in i c.args.image.now).primary) _ _ _ c.any.ensures.ran (YieldsList-from_range 0 c.count_of.result c.count_of.result refl (omega arith)) (λ x b q k. search (rules, tests))
    ∙ above_in c.args.image.now c.count_of.result c.count_of.ensures
