use borrow.Author.Rules.{rules}
use Rattle.std.proofs.lemmas.Result.{err_from_is_err_and}
use Rattle.search.proofs.ListedLaws.{listed_refused, listed_made}
use Rattle.search.proofs.search_listed.Goals as goal

pub returns-in_err-found : goal.returns-in_err-found
returns-in_err-found c =
    let a = c.args in
    let p = err_from_is_err_and c.from_residual.result c.from_residual.ensures.1 in
    rw (p.1, p.2)
    (listed_refused a.image.now a.clock a.allowance a.room _ _ c.min.result c.search.new.image (search rules) c.min.ensures (search rules) c.in_err-found.field-0.0
    c.in_err-found.ensures)

pub returns : goal.returns
returns c =
    let a = c.args in
    listed_made a.image.now a.clock a.allowance a.room _ _ c.min.result c.search.new.image (search rules) c.min.ensures (search rules) c.in_ok-found.found
    c.in_ok-found.ensures
