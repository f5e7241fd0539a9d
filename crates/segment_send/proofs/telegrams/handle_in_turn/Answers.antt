use mathlib.Core.Path.{◌≡◌, ap, ◌∙◌}
use mathlib.Core.List.{List}
use Prim.Native.Nat.{ℕ, ◌+◌, ◌*◌, ◌≤◌, ◌<◌}
use native.Mathlib.Omega.{arith}
use lib.ListN.{length, take, drop, length-drop}
use lib.Seq.{take_all}
use Rattle.std.proofs.lemmas.Result.{err_from_is_err_and}
use Rattle.std.proofs.lemmas.List.{take_rest}
use Rattle.frame.specs.Frame.{Telegram, complete, parse}
use Rattle.frame.specs.View.{telegram_of, why_of}
use Rattle.frame.proofs.Waiting.{waiting_short}
use Rattle.segment.specs.Plain.{with_input}
use Rattle.segment_telegram.specs.ProgramComes.{may_reply}
use Rattle.segment_replies.proofs.JoiningLaws.{small_all}
use Rattle.segment_send.proofs.SendLaws.{bytes_drop}
use Rattle.segment_send.proofs.TelegramLaws.{left_none, left_more, left_full, left_waits, left_drops, parsed_complete, parsed_incomplete, parsed_invalid, used_within, used_five}
use Rattle.segment_image.specs.Image.{decode_image}
use Rattle.segment_places.proofs.Becoming.{becomes_as}
use Rattle.segment_send.proofs.telegrams.handle_in_turn.Goals as goal

-- the bytes of a whole telegram that stands in front of what is left
uses : (bytes : List ℕ) (pos : ℕ) (t : Telegram) (used : ℕ) → parse (drop pos bytes) ≡ complete t used → (0 < used) × (pos + used ≤ length bytes) × (5 * may_reply t ≤ used)
uses bytes pos t used e =
    let u = used_within (drop pos bytes) t used e in
    (u.0, omega (arith, u.1, length-drop pos bytes), used_five (drop pos bytes) t used e)

pub loop-frame-init : goal.loop-frame-init
loop-frame-init c = (omega arith, left_none)

pub returns-in_err-handle-in-Complete : goal.returns-in_err-handle-in-Complete
returns-in_err-handle-in-Complete c =
    let bytes = c.args.bytes.now in
    let at = c.loop-frame in
    let f = c.in-Complete in
    let t = telegram_of f.frame in
    let whole = parsed_complete (take_rest bytes at.pos) c.parse.ensures f.is in
    let u = uses bytes at.pos t f.used whole in
    let p = err_from_is_err_and c.from_residual.result c.from_residual.ensures.1 in
    rw p.1 (left_full at.invariant.1 t f.used whole u.2 c.in_err-handle-in-Complete.ensures.comes u.1)

pub overflow_add-pos : goal.overflow_add-pos
overflow_add-pos c =
    let bytes = c.args.bytes.now in
    let u = uses bytes c.loop-frame.pos _ c.in-Complete.used (parsed_complete (take_rest bytes c.loop-frame.pos) c.parse.ensures c.in-Complete.is) in
    record { fits = omega (arith, u.0, u.1) }

pub loop-frame-smaller : goal.loop-frame-smaller
loop-frame-smaller c =
    let bytes = c.args.bytes.now in
    let u = uses bytes c.loop-frame.pos _ c.in-Complete.used (parsed_complete (take_rest bytes c.loop-frame.pos) c.parse.ensures c.in-Complete.is) in
    omega (arith, u.0, u.1)

pub loop-frame-preserved : goal.loop-frame-preserved
loop-frame-preserved c =
    let bytes = c.args.bytes.now in
    let at = c.loop-frame in
    let f = c.in-Complete in
    let t = telegram_of f.frame in
    let whole = parsed_complete (take_rest bytes at.pos) c.parse.ensures f.is in
    let u = uses bytes at.pos t f.used whole in
    (omega (arith, u.0, u.1), left_more at.invariant.1 t f.used whole u.2 c.in_ok-handle-in-Complete.ensures.comes)

pub returns-in-Incomplete : goal.returns-in-Incomplete
returns-in-Incomplete c =
    let bytes = c.args.bytes.now in
    let at = c.loop-frame in
    let part = parsed_incomplete (take_rest bytes at.pos) c.parse.ensures c.in-Incomplete.is in
    let small = small_all bytes (λ i. (c.type_inv.bytes i).fits) in
    let short = waiting_short (drop at.pos bytes) (bytes_drop at.pos bytes small) part in
    left_waits at.invariant.1 at.invariant.0 part
    (becomes_as (ap (λ x. with_input x (decode_image at.image)) (ap (take 260) (take_rest bytes at.pos) ∙ take_all 260 (drop at.pos bytes) short)) c.keep.ensures)

pub returns-in-Invalid : goal.returns-in-Invalid
returns-in-Invalid c =
    let at = c.loop-frame in
    left_drops at.invariant.1 (why_of c.in-Invalid.field-0) at.invariant.0 (parsed_invalid (take_rest c.args.bytes.now at.pos) c.parse.ensures c.in-Invalid.is) c.discard.ensures
