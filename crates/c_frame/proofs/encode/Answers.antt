-- `c_frame::encode` meets its contract.
use mathlib.Core.Path.{ap, ◌∙◌}
use Prim.Native.Nat.{◌+◌, ◌*◌}
use native.Mathlib.Omega.{arith}
use Rattle.frame.specs.Frame.{Telegram}
use Rattle.frame_write.specs.Writer.{WriteOutcome, write}
use Rattle.frame.specs.View.{telegram_of}
use Rattle.c_frame.proofs.TelegramLaws.{written_most}
use Rattle.c_frame.proofs.encode.Goals as goal

pub packed_written-requires : goal.packed_written-requires
packed_written-requires c =
    let a = c.args in
    omega (arith, ap (λ (w : WriteOutcome). w.count) c.encode.ensures, written_most (telegram_of c.frame_by-frame.result) a.lent.now)

pub returns : goal.returns
returns c =
    let a = c.args in
    let e = c.encode.ensures ∙ ap (λ (t : Telegram). write t a.lent.now) c.frame_by-frame.ensures in
    record { answers = c.packed_written.ensures ∙ ap (λ (w : WriteOutcome). w.number * 65536 + w.count) e; lent = ap (λ (w : WriteOutcome). w.lent) e }
