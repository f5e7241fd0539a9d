use mathlib.Core.Path.{◌≡◌}
use native.Mathlib.Omega.{arith}
use borrow.Author.Rules.{rules}
use lib.ListN.{length}
use lib.Seq.{length-take-le}
use Rattle.list_open.specs.Opening.{capacity}
use Rattle.search_packed.specs.ProgramPacked.{walking}
use Rattle.search.proofs.SearchCoreLaws.{refused_clock_lem, refused_waiting, refused_few, lent_enough, made_search}
use Rattle.search.proofs.search.Goals as goal

pub returns-then-not-good_clock : goal.returns-then-not-good_clock
returns-then-not-good_clock c =
    let a = c.args in
    refused_clock_lem a.image.now a.clock a.allowance a.entries.now c.good_clock.ensures c.if-not-good_clock.true-raw

pub returns-then-not-is_empty : goal.returns-then-not-is_empty
returns-then-not-is_empty c =
    let a = c.args in
    refused_waiting a.image.now a.clock a.allowance a.entries.now c.good_clock.ensures c.if-not-good_clock.false-raw c.is_empty.ensures c.if-not-is_empty.true-raw

pub returns-then-entries-count_of : goal.returns-then-entries-count_of
returns-then-entries-count_of c =
    let a = c.args in
    refused_few a.image.now a.clock a.allowance a.entries.now c.good_clock.ensures c.if-not-good_clock.false-raw c.is_empty.ensures c.if-not-is_empty.false-raw c.count_of.ensures c.if-entries-count_of.true

pub shared_ref_as_front-write_records : goal.shared_ref_as_front-write_records
unfolding capacity
shared_ref_as_front-write_records c = omega (arith, c.walk_packed-walk.result.fits)

pub write_records-requires : goal.write_records-requires
unfolding walking
write_records-requires c =
    let a = c.args in
    let w = c.walk_packed-walk in
    lent_enough a.image.now a.clock a.allowance a.entries.now c.good_clock.ensures c.if-not-good_clock.false-raw c.is_empty.ensures c.if-not-is_empty.false-raw c.count_of.ensures
    _ _ c.if-entries-count_of.false w.ensures

pub returns : goal.returns
unfolding walking capacity
returns c =
    let a = c.args in
    let w = c.walk_packed-walk in
    let q = w.result in
    let room : length q.entries ≡ capacity = search rules in
    made_search a.image.now a.clock a.allowance a.entries.now c.good_clock.ensures c.if-not-good_clock.false-raw c.is_empty.ensures c.if-not-is_empty.false-raw c.count_of.ensures
    _ _ _ _ c.if-entries-count_of.false w.ensures (omega (arith, q.fits, room, length-take-le q.found q.entries)) c.write_records.ensures
