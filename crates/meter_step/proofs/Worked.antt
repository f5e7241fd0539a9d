-- Examples: those of 01, and a reply of each model, whose bytes are those that the Rust sends.
use mathlib.Core.Path.{◌≡◌, refl}
use mathlib.Core.Bool.{Bool, false}
use mathlib.Core.List.{[], ◌∷◌}
use Prim.Native.Nat.{ℕ}
use lib.IntN.{pos}
use lib.Ieee.{Float, fin}
use Rattle.frame.specs.Frame.{short, encode, sum}
use Rattle.numbers.specs.Values.{little, bcd}
use Rattle.meter_identity.specs.Identity.{id_bytes_value, digits_of_value}
use Rattle.time_dates.specs.Dates.{type_g_value, type_f_value}
use Rattle.time_seconds.specs.Seconds.{whole}
use Rattle.meter.specs.PlainMeter.{PlainMeter}
use Rattle.time_clock.specs.declared.Clock.{Clock}
use Rattle.meter.specs.declared.Fault.{Fault}
use Rattle.meter.specs.declared.Fault.TheVariants.{None, Busy, TooMany}
use Rattle.std.specs.Prelude.{Option, Some, None as no_fcb}
use Rattle.meter.specs.declared.Model.{Model}
use Rattle.meter.specs.declared.Model.TheVariants.{Heat, Electricity, Water, Fixed}
use Rattle.meter.specs.Meter.{hears, offered}
use Rattle.meter_request.specs.Asking.{asked}
use Rattle.meter_reply.specs.Response.{user_data_value, response, damaged, readout}
use Rattle.meter_data.specs.UserData.{fixed_data_value, head, clock_f, heat_first_value, heat_second_value, electricity, water}
use Rattle.meter_step.specs.Hear.{Reply, says, target, request, listens, hear}

-- ---- the table of 01

-- (e) busy at 11: 68 04 04 68 08 0B 70 08 8B 16, whatever else the meter is and whenever it is asked
pub worked_e : (elapsed : Float) (k : Clock) (m : PlainMeter) → m.fault ≡ Busy → m.primary ≡ 11
    → readout elapsed k m ≡ 0x68 ∷ 0x04 ∷ 0x04 ∷ 0x68 ∷ 0x08 ∷ 0x0B ∷ 0x70 ∷ 0x08 ∷ 0x8B ∷ 0x16 ∷ []
unfolding readout response damaged encode sum
worked_e elapsed k m f p = rw (f, p)

-- "an access number that goes from 255 back to 0"
pub access_back : (fcb : Bool) (m : PlainMeter) → m.access ≡ 255 → (asked fcb m).access ≡ 0
unfolding asked
access_back fcb m a = rw a

-- ---- a reply of each model, to REQ_UD2 at address 5

-- 1.10.2026, 00:00
abbrev pub midnight : Clock
midnight = record { now = fin false 0 (pos 0); year = 2026; month = 10; day = 1; hour = 0; minute = 0 }

-- id 12345678 with its seed, 43,672; KAM, version 1
abbrev pub meter : Model → ℕ → Fault → ℕ → Option Bool → ℕ → PlainMeter
meter model medium fault access last readouts =
    record {
      primary = 5;
      digits = digits_of_value 0x12345678;
      manufacturer = 0x2C2D;
      version = 1;
      medium = medium;
      model = model;
      fault = fault;
      access = access;
      baud = 2400;
      selected = false;
      part = 0;
      last = last;
      readouts = readouts;
      seed = 43672;
      hears_next = false;
    }

-- the reply to REQ_UD2 (5B, FCB set) to address 5 after some seconds
abbrev pub reply : ℕ → PlainMeter → Reply
reply seconds m = (hear 2400 (short 0x7B 5) (fin false seconds (pos 0)) midnight m).reply

-- Heat, part 0, after 59 s
pub heat_0 : reply 59 (meter Heat 4 None 0 no_fcb 0)
    ≡ says
    (0x68 ∷ 0x4E ∷ 0x4E ∷ 0x68 ∷ 0x08 ∷ 0x05 ∷ 0x72 ∷ 0x78 ∷ 0x56 ∷ 0x34 ∷ 0x12 ∷ 0x2D ∷ 0x2C ∷ 0x01 ∷ 0x04 ∷ 0x01 ∷ 0x00 ∷ 0x00 ∷ 0x00 ∷ 0x04
    ∷ 0x06 ∷ 0xDD ∷ 0x8C ∷ 0x02 ∷ 0x00 ∷ 0x04 ∷ 0x14 ∷ 0x2B ∷ 0xF8 ∷ 0x08 ∷ 0x00 ∷ 0x04 ∷ 0x2B ∷ 0x42 ∷ 0x30 ∷ 0x00 ∷ 0x00 ∷ 0x02 ∷ 0x59 ∷ 0x7B
    ∷ 0x19 ∷ 0x02 ∷ 0x5D ∷ 0x72 ∷ 0x10 ∷ 0x02 ∷ 0x61 ∷ 0x09 ∷ 0x09 ∷ 0x04 ∷ 0x3B ∷ 0xD2 ∷ 0x04 ∷ 0x00 ∷ 0x00 ∷ 0x04 ∷ 0x6D ∷ 0x00 ∷ 0x00 ∷ 0x41
    ∷ 0x3A ∷ 0x44 ∷ 0x06 ∷ 0xC0 ∷ 0xD4 ∷ 0x01 ∷ 0x00 ∷ 0x42 ∷ 0x6C ∷ 0x5E ∷ 0x39 ∷ 0x01 ∷ 0xFD ∷ 0x17 ∷ 0x00 ∷ 0x0C ∷ 0x78 ∷ 0x78 ∷ 0x56 ∷ 0x34
    ∷ 0x12 ∷ 0x1F ∷ 0x81 ∷ 0x16 ∷ [])
unfolding hear listens target request hears offered asked readout response user_data_value damaged encode sum head fixed_data_value heat_first_value heat_second_value electricity water clock_f little bcd type_g_value type_f_value id_bytes_value digits_of_value whole
heat_0 = refl

-- Heat once the FCB has changed: the second part
pub heat_1 : reply 59 (meter Heat 4 None 1 (Some false) 0)
    ≡ says
    (0x68 ∷ 0x1F ∷ 0x1F ∷ 0x68 ∷ 0x08 ∷ 0x05 ∷ 0x72 ∷ 0x78 ∷ 0x56 ∷ 0x34 ∷ 0x12 ∷ 0x2D ∷ 0x2C ∷ 0x01 ∷ 0x04 ∷ 0x02 ∷ 0x00 ∷ 0x00 ∷ 0x00 ∷ 0x84
    ∷ 0x01 ∷ 0x06 ∷ 0xB0 ∷ 0xAD ∷ 0x01 ∷ 0x00 ∷ 0x82 ∷ 0x01 ∷ 0x6C ∷ 0x3E ∷ 0x39 ∷ 0x0F ∷ 0x01 ∷ 0x02 ∷ 0x03 ∷ 0x57 ∷ 0x16 ∷ [])
unfolding hear listens target request hears offered asked readout response user_data_value damaged encode sum head fixed_data_value heat_first_value heat_second_value electricity water clock_f little bcd type_g_value type_f_value id_bytes_value digits_of_value whole
heat_1 = refl

-- Electricity, after 59 s
pub electricity_59 : reply 59 (meter Electricity 2 None 0 no_fcb 0)
    ≡ says
    (0x68 ∷ 0x4B ∷ 0x4B ∷ 0x68 ∷ 0x08 ∷ 0x05 ∷ 0x72 ∷ 0x78 ∷ 0x56 ∷ 0x34 ∷ 0x12 ∷ 0x2D ∷ 0x2C ∷ 0x01 ∷ 0x02 ∷ 0x01 ∷ 0x00 ∷ 0x00 ∷ 0x00 ∷ 0x0E
    ∷ 0x03 ∷ 0x37 ∷ 0x77 ∷ 0x01 ∷ 0x56 ∷ 0x00 ∷ 0x00 ∷ 0x8E ∷ 0x10 ∷ 0x03 ∷ 0x00 ∷ 0x00 ∷ 0x00 ∷ 0x08 ∷ 0x00 ∷ 0x00 ∷ 0x8E ∷ 0x20 ∷ 0x03 ∷ 0x78
    ∷ 0x56 ∷ 0x34 ∷ 0x04 ∷ 0x00 ∷ 0x00 ∷ 0x04 ∷ 0x2B ∷ 0x37 ∷ 0x09 ∷ 0x00 ∷ 0x00 ∷ 0x05 ∷ 0x2E ∷ 0x00 ∷ 0x00 ∷ 0x60 ∷ 0x40 ∷ 0x04 ∷ 0xFD ∷ 0x48
    ∷ 0xFD ∷ 0x08 ∷ 0x00 ∷ 0x00 ∷ 0x04 ∷ 0xFD ∷ 0x59 ∷ 0x03 ∷ 0x14 ∷ 0x00 ∷ 0x00 ∷ 0x0D ∷ 0xFD ∷ 0x0E ∷ 0x04 ∷ 0x32 ∷ 0x30 ∷ 0x2E ∷ 0x31 ∷ 0x44
    ∷ 0x16 ∷ [])
unfolding hear listens target request hears offered asked readout response user_data_value damaged encode sum head fixed_data_value heat_first_value heat_second_value electricity water clock_f little bcd type_g_value type_f_value id_bytes_value digits_of_value whole
electricity_59 = refl

-- Water, after 59 s
pub water_59 : reply 59 (meter Water 7 None 0 no_fcb 0)
    ≡ says
    (0x68 ∷ 0x25 ∷ 0x25 ∷ 0x68 ∷ 0x08 ∷ 0x05 ∷ 0x72 ∷ 0x78 ∷ 0x56 ∷ 0x34 ∷ 0x12 ∷ 0x2D ∷ 0x2C ∷ 0x01 ∷ 0x07 ∷ 0x01 ∷ 0x00 ∷ 0x00 ∷ 0x00 ∷ 0x0C
    ∷ 0x13 ∷ 0x19 ∷ 0x92 ∷ 0x42 ∷ 0x00 ∷ 0x4C ∷ 0x13 ∷ 0x00 ∷ 0x00 ∷ 0x10 ∷ 0x00 ∷ 0x42 ∷ 0x6C ∷ 0x3F ∷ 0x3C ∷ 0x04 ∷ 0x6D ∷ 0x00 ∷ 0x00 ∷ 0x41
    ∷ 0x3A ∷ 0x85 ∷ 0x16 ∷ [])
unfolding hear listens target request hears offered asked readout response user_data_value damaged encode sum head fixed_data_value heat_first_value heat_second_value electricity water clock_f little bcd type_g_value type_f_value id_bytes_value digits_of_value whole
water_59 = refl

-- heat_old, after two minutes
pub fixed_120 : reply 120 (meter Fixed 4 None 0 no_fcb 0)
    ≡ says
    (0x68 ∷ 0x13 ∷ 0x13 ∷ 0x68 ∷ 0x08 ∷ 0x05 ∷ 0x73 ∷ 0x78 ∷ 0x56 ∷ 0x34 ∷ 0x12 ∷ 0x01 ∷ 0x00 ∷ 0x05 ∷ 0x6C ∷ 0x19 ∷ 0x60 ∷ 0x05 ∷ 0x00 ∷ 0x78
    ∷ 0x06 ∷ 0x00 ∷ 0x00 ∷ 0x02 ∷ 0x16 ∷ [])
unfolding hear listens target request hears offered asked readout response user_data_value damaged encode sum head fixed_data_value heat_first_value heat_second_value electricity water clock_f little bcd type_g_value type_f_value id_bytes_value digits_of_value whole
fixed_120 = refl

-- too_many, read twice before
pub third : reply 59 (meter Water 7 TooMany 2 (Some false) 2)
    ≡ says
    (0x68 ∷ 0x04 ∷ 0x04 ∷ 0x68 ∷ 0x08 ∷ 0x05 ∷ 0x70 ∷ 0x09 ∷ 0x86 ∷ 0x16 ∷ [])
unfolding hear listens target request hears offered asked readout response user_data_value damaged encode sum head fixed_data_value heat_first_value heat_second_value electricity water clock_f little bcd type_g_value type_f_value id_bytes_value digits_of_value whole
third = refl
