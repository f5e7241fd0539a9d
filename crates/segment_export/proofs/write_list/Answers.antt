-- `segment_export::write_list` meets its contract.
use borrow.Author.Rules.{rules}
use mathlib.Core.Path.{◌≡◌}
use native.Mathlib.Omega.{arith}
use lib.ListN.{length}
use Rattle.laws.proofs.Copying.{copied_into}
use Rattle.segment_export.proofs.ListLaws.{list_written}
use Rattle.segment_export.proofs.write_list.Goals as goal

pub returns : goal.returns
returns c =
    let t = c.args.records.now in
    let same : length c.copy.new.to ≡ length c.args.lent.now = search rules in
    list_written c.head_bytes-head.result t c.args.lent.now _ _ (omega (arith, c.requires.1)) c.head_bytes-head.ensures c.copy.ensures.bytes
    (copied_into c.copy.new.to t c.copy-2.new.to 3 (omega (arith, same, c.requires.1)) c.copy-2.ensures.bytes)
