use mathlib.Core.Path.{◌≡◌, sym, ap, ◌∙◌}
use mathlib.Core.List.{List, [], ◌∷◌}
use Prim.Native.Nat.{ℕ}
use lib.ListN.{set}
use Rattle.frame.specs.View.{telegram_of}
use Rattle.time_seconds.specs.Seconds.{elapsed_of_value}
use Rattle.meter.specs.PlainMeter.{PlainMeter}
use Rattle.meter.specs.View.{plain_meter}
use Rattle.meter_reply.specs.Response.{readout}
use Rattle.meter_step.specs.Hear.{Heard, hear}
use Rattle.meter_step.specs.View.{reply_of, heard_of}
use Rattle.segment_replies.proofs.JoiningLaws.{joins_acked, joins_replied, joins_as, joins_still}
use Rattle.segment_telegram.specs.Handled.{with_reply, replies}
use Rattle.segment_image.specs.Image.{decode_image}
use Rattle.segment.specs.Plain.{Plain, with_meters}
use Rattle.segment_places.specs.ProgramBecomes.{meter_in, Becomes}
use Rattle.segment_places.proofs.Becoming.{becomes_as}
use Rattle.segment_telegram.proofs.sweep.step.Goals as goal

-- the image with the meter put back that heard
changed : (f : PlainMeter → Heard) (i : ℕ) (old new : List ℕ) (h : Heard) → h ≡ f (meter_in i old)
    → Becomes old (with_meters (set (decode_image old).meters i h.meter) (decode_image old)) new
    → Becomes old (with_meters (set (decode_image old).meters i (f (meter_in i old)).meter) (decode_image old)) new
changed f i old new h e b = becomes_as (ap (λ (x : Heard). with_meters (set (decode_image old).meters i x.meter) (decode_image old)) e) b

pub returns-in-Silent : goal.returns-in-Silent
returns-in-Silent c =
    let a = c.args in
    let l = a.image.now in
    let h = c.hear-answer.result in
    let since = elapsed_of_value a.clock.now (decode_image l).origin in
    let way : PlainMeter → Heard = hear a.bus (telegram_of a.frame) since a.clock in
    let heard : heard_of since a.clock h ≡ way (meter_in a.i l) = c.hear-answer.ensures since a.clock ∙ ap way c.meter_at-m.ensures in
    let said = ap (λ x. with_reply (reply_of x since a.clock (plain_meter h.meter)) []) (sym c.in-Silent.is) ∙ ap (λ x. replies (x ∷ [])) heard in
    record { becomes = changed way a.i l _ _ heard c.put_meter.ensures; joins = λ rs j. joins_as rs said (joins_still rs j) }

pub returns-in-Ack : goal.returns-in-Ack
returns-in-Ack c =
    let a = c.args in
    let l = a.image.now in
    let h = c.hear-answer.result in
    let since = elapsed_of_value a.clock.now (decode_image l).origin in
    let way : PlainMeter → Heard = hear a.bus (telegram_of a.frame) since a.clock in
    let heard : heard_of since a.clock h ≡ way (meter_in a.i l) = c.hear-answer.ensures since a.clock ∙ ap way c.meter_at-m.ensures in
    let said = ap (λ x. with_reply (reply_of x since a.clock (plain_meter h.meter)) []) (sym c.in-Ack.is) ∙ ap (λ x. replies (x ∷ [])) heard in
    record { becomes = changed way a.i l _ _ heard c.put_meter.ensures; joins = λ rs j. joins_as rs said (joins_acked c.requires j c.join_ack.ensures) }

pub returns-in-Readout : goal.returns-in-Readout
returns-in-Readout c =
    let a = c.args in
    let l = a.image.now in
    let h = c.hear-answer.result in
    let since = elapsed_of_value a.clock.now (decode_image l).origin in
    let way : PlainMeter → Heard = hear a.bus (telegram_of a.frame) since a.clock in
    let heard : heard_of since a.clock h ≡ way (meter_in a.i l) = c.hear-answer.ensures since a.clock ∙ ap way c.meter_at-m.ensures in
    let said = ap (λ x. with_reply (reply_of x since a.clock (plain_meter h.meter)) []) (sym c.in-Readout.is) ∙ ap (λ x. replies (x ∷ [])) heard in
    let then = c.elapsed_of.ensures ∙ ap (elapsed_of_value a.clock.now) (ap (λ (p : Plain). p.origin) c.put_meter.ensures.means) in
    record {
      becomes = changed way a.i l _ _ heard c.put_meter.ensures;
      joins = λ rs j. joins_as rs (ap (λ x. x ∷ []) (c.readout.ensures ∙ ap (λ x. readout x a.clock (plain_meter h.meter)) then) ∙ said) (joins_replied c.requires j c.join.ensures);
    }
