use mathlib.Core.Path.{◌≡◌, sym, ap, ◌∙◌}
use Prim.Native.Nat.{ℕ, min}
use native.Mathlib.Omega.{arith}
use lib.ListN.{length, take, length-take}
use borrow.Author.Rules.{rules}
use Rattle.search.specs.Site.{site}
use Rattle.std.proofs.lemmas.List.{take_min}
use Rattle.laws.proofs.Sweep.{length_mapped}
use Rattle.list_open.specs.Opening.{capacity}
use Rattle.segment_calls.proofs.OpenLaws.{refused-number}
use Rattle.listing_text.proofs.ListingLaws.{lists_refusal, lists_report, lists_none}
use Rattle.listing_text.proofs.list_into.Goals as goal

pub returns-in-Err : goal.returns-in-Err
returns-in-Err c =
    let n = c.number in
    lists_refusal _ n.result (n.ensures.0 ∙ (rw c.in-Err.is at c.open_list.ensures.number)) (λ z. absurd (omega (arith, refused-number c.in-Err.refusal, n.ensures.0, z))) c.push_refusal.ensures

pub push_report-requires : goal.push_report-requires
unfolding capacity
push_report-requires c = (c.requires, simp length-take (omega (arith, c.min.ensures)))

pub returns-in-Ok : goal.returns-in-Ok
unfolding capacity site
returns-in-Ok c =
    let o = c.open_list.ensures in
    let f = c.in-Ok.found in
    let after = c.search.new.entries in
    let d : length after ≡ capacity = search (rules, length_mapped) in
    lists_report _ _ _ c.clock.result (rw c.in_default.is at o.number) o.segment c.clock.ensures c.default-records.result c.default-records.ensures f after _
    (rw c.in-Ok.is at c.search.ensures) (ap (λ (j : ℕ). take j after) (c.min.ensures ∙ ap (min f.count) (sym d)) ∙ take_min f.count after) c.push_report.ensures

pub returns-in-Err-search : goal.returns-in-Err-search
unfolding capacity site
returns-in-Err-search c =
    let o = c.open_list.ensures in
    lists_none _ _ _ c.clock.result (rw c.in_default.is at o.number) o.segment c.clock.ensures c.default-records.result c.default-records.ensures _ _
    (rw c.in-Err-search.is at c.search.ensures) c.push_report-in-Err-search.ensures
