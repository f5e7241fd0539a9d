-- `segment_image::write_meters` meets its contract.
use mathlib.Core.Path.{◌≡◌, sym, ap, subst, ◌∙◌}
use Prim.Native.Nat.{◌+◌, ◌*◌, ◌≤◌}
use native.Mathlib.Omega.{arith}
use lib.ListN.{length}
use lib.Seq.{paste, length-paste}
use borrow.Author.Rules.{rules}
use Rattle.list_open.specs.Opening.{capacity}
use Rattle.segment_image.proofs.MeterLaws.{Put, put-none, put_more, put_all}
use Rattle.segment_image.proofs.write_meters.Goals as goal

pub loop-i-init : goal.loop-i-init
unfolding capacity
loop-i-init c = (omega arith, put-none)

pub copy-requires : goal.copy-requires
copy-requires c =
    let w : length c.meter_bytes-b.result ≡ 25 = search rules in
    omega arith

pub loop-i-preserved : goal.loop-i-preserved
loop-i-preserved c =
    let at = c.loop-i in
    let inv = at.invariant in
    let b = c.meter_bytes-b.result in
    let w : length b ≡ 25 = search rules in
    let h : 25 * at.i + 25 ≤ length at.bs = omega arith in
    let said = c.meter_bytes-b.ensures in
    let e = c.copy.ensures ∙ ap (paste at.bs (25 * at.i) b) w in (
      ap length e ∙ length-paste at.bs (25 * at.i) b 25 h (omega arith) ∙ inv.0,
      subst (Put _ _ (at.i + 1)) (sym e) (put_more b _ inv.1 (omega arith) h said.0 said.1),
    )

pub returns : goal.returns
returns c = put_all c.loop-i.invariant.1 (omega arith)
