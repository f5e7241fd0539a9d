-- `c_search::search_image` meets its contract.
use borrow.Author.Rules.{rules}
use Rattle.c_search.proofs.SearchLaws.{search_refused_lem, entries_fit, search_made}
use Rattle.c_search.proofs.search_image.Goals as goal

pub write_entries-requires : goal.write_entries-requires
write_entries-requires c =
    let a = c.args in
    entries_fit a.clock a.allowance a.entries.now a.image.now _ _ c.search.new.entries c.min.result (search rules) c.min.ensures (search rules)
    c.in-Ok.found (rw c.in-Ok.is at c.search.ensures)

pub returns-in-Ok : goal.returns-in-Ok
returns-in-Ok c =
    let a = c.args in
    search_made a.clock a.allowance a.entries.now a.image.now _ _ c.search.new.entries c.min.result (search rules) c.min.ensures (search rules)
    c.in-Ok.found (rw c.in-Ok.is at c.search.ensures) _ _ c.write_entries.ensures c.summary_of.ensures a.summary.now

pub returns-in-Err : goal.returns-in-Err
returns-in-Err c =
    let a = c.args in
    rw c.number.ensures.0
    (search_refused_lem a.clock a.allowance a.entries.now a.image.now _ _ c.search.new.entries c.min.result (search rules) c.min.ensures (search rules)
    c.in-Err.error a.summary.now (rw c.in-Err.is at c.search.ensures))
