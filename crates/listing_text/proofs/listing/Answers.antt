use native.Mathlib.Omega.{arith}
use borrow.Author.Rules.{rules}
use Rattle.list_open.specs.Opening.{capacity}
use Rattle.listing_text.proofs.listing.Goals as goal

pub invariant_of-page : goal.invariant_of-page
unfolding capacity
invariant_of-page c = record { fits = (search rules, omega arith) }
