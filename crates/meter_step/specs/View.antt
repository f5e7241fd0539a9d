-- The program's values in the terms of the definitions.
use Rattle.std.specs.Prelude.{Float}
use Rattle.time_clock.specs.declared.Clock.{Clock}
use Rattle.meter.specs.PlainMeter.{PlainMeter}
use Rattle.meter.specs.View.{plain_meter}
use Rattle.meter_reply.specs.Response.{readout}
use Rattle.meter_step.specs.declared.Answer.{Answer}
use Rattle.meter_step.specs.declared.Answer.TheVariants.{Silent, Ack, Readout}
use Rattle.meter_step.specs.declared.Heard.{Heard as HeardHere}
use Rattle.meter_step.specs.Hear.{Reply, silence, says, Heard, E5}

-- the reply that an answer stands for; a readout is that of the meter as it is then
abbrev pub reply_of : Answer → Float → Clock → PlainMeter → Reply
reply_of Silent elapsed k m = silence
reply_of Ack elapsed k m = says E5
reply_of Readout elapsed k m = says (readout elapsed k m)

-- the meter after a telegram, and what it replied
abbrev pub heard_of : Float → Clock → HeardHere → Heard
heard_of elapsed k h = record { meter = plain_meter h.meter; reply = reply_of h.answer elapsed k (plain_meter h.meter) }
