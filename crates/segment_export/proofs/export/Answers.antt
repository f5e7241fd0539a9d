-- `segment_export::export` meets its contract.
use mathlib.Core.Path.{sym, ap, ◌∙◌}
use native.Mathlib.Omega.{arith}
use lib.ListN.{length}
use Rattle.segment_image.specs.Image.{decode_image}
use Rattle.segment_export.proofs.ListLaws.{export_high, export_short, export_written}
use Rattle.segment_export.proofs.export.Goals as goal

pub returns-then-any_above_250 : goal.returns-then-any_above_250
returns-then-any_above_250 c = export_high c.args.lent.now (decode_image c.args.image.now) (sym c.if-any_above_250.true ∙ c.any_above_250.ensures)

pub returns-then-lent-n : goal.returns-then-lent-n
returns-then-lent-n c =
    export_short c.args.lent.now (decode_image c.args.image.now) (sym c.if-any_above_250.false ∙ c.any_above_250.ensures) c.write_records-written.ensures
    (omega (arith, ap length c.as_slice-records.ensures.is))

pub returns : goal.returns
returns c =
    rw c.as_slice-records.ensures.is
    (export_written c.args.lent.now (decode_image c.args.image.now) (sym c.if-any_above_250.false ∙ c.any_above_250.ensures) c.write_records-written.ensures
    (omega (arith, ap length c.as_slice-records.ensures.is)) (rw c.as_slice-records.ensures.is at c.write_list.ensures))
