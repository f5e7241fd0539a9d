use native.Mathlib.Omega.{arith}
use Rattle.listing_text.proofs.TextLaws.{number_one, number_more, number_longer, wrote_then, wrote_as}
use Rattle.listing_text.proofs.page.Page.+push_number.Goals as goal
use Rattle.listing_text.proofs.page.Page.+push_number.Goals.{then-n-ge10, else-n-ge10}
use mathlib.Core.Path.{sym, ap}
use lib.ListN.{length}

pub push_number-requires : goal.push_number-requires
push_number-requires t c = let e = number_longer {n = c.args.n} (omega arith) (omega arith) in (omega arith, omega (arith, e))

pub push_text-requires : goal.push_text-requires
push_text-requires t c = elim c.if-n-ge10.branch [
  | then-n-ge10 w ↦
      let e = number_longer {n = c.args.n} (omega arith) (omega arith) in
      rw w.self-is (omega (arith, e, w.push_number.ensures.end))
  | else-n-ge10 w ↦
      let e = ap length (number_one {n = c.args.n} (omega arith)) in
      rw w.self-is (omega (arith, e))
]

pub returns : goal.returns
returns t c = elim c.if-n-ge10.branch [
  | then-n-ge10 w ↦
      let p = w.push_number.ensures in
      wrote_as (sym (number_more {n = c.args.n} (omega arith) (omega arith))) (wrote_then p (rw w.self-is at c.push_text.ensures) (omega (arith, w.push_number.new.self.fits)))
  | else-n-ge10 w ↦ wrote_as (sym (number_one {n = c.args.n} (omega arith))) (rw w.self-is at c.push_text.ensures)
]
