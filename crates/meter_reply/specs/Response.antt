-- What a meter answers a REQ_UD2 with (01, "A lone meter is read"): "`rsp_ud`'s layout, C 08", and what the faults
-- make of it.
-- Values go by the whole seconds of the elapsed time, "stopped at the largest u32 (u64 for heat_old)".
use Rattle.std.specs.Prelude.{ℕ, ◌+◌, ◌-◌, ◌/◌, ◌%◌, List, [], ◌∷◌, ◌++◌, length, take, ◌==◌, bit_xor, nat_lt, slice_set, Float, if◌then◌else◌}
use Rattle.laws.specs.Words.{at}
use Rattle.frame.specs.Protocol.{c_rsp_ud, ci_error, ci_variable, ci_fixed}
use Rattle.frame.specs.Frame.{Telegram, long, encode}
use Rattle.time_seconds.specs.Seconds.{whole, last32}
use Rattle.meter.specs.PlainMeter.{PlainMeter}
use Rattle.time_clock.specs.declared.Clock.{Clock}
use Rattle.meter_data.specs.UserData.{fixed_data_value, head, heat_now, electricity, water}
use Rattle.meter.specs.declared.Fault.{Fault}
use Rattle.meter.specs.declared.Fault.TheVariants.{None, Checksum, Truncated, Busy, WrongAddress, Flaky, TooMany}
use Rattle.meter.specs.declared.Model.{Model}
use Rattle.meter.specs.declared.Model.TheVariants.{Heat, Electricity, Water, Fixed}

-- ---- the telegram

-- "Wrong_address adds 1 to the address modulo 256"
abbrev pub address : Fault → ℕ → ℕ
address None p = p
address Checksum p = p
address Truncated p = p
address Busy p = p
address WrongAddress p = (p + 1) % 256
address Flaky p = p
address TooMany p = p

-- C 08; CI 73 for heat_old; CI 72 for the others, and the wrong address "in CI 72 replies only"
unfoldable pub user_data_value : Model → Float → Clock → PlainMeter → Telegram
user_data_value Heat elapsed k m =
    long c_rsp_ud (address m.fault m.primary) ci_variable
    (head m ++ heat_now (whole last32 elapsed) k m)
user_data_value Electricity elapsed k m = long c_rsp_ud (address m.fault m.primary) ci_variable (head m ++ electricity (whole last32 elapsed) m)
user_data_value Water elapsed k m = long c_rsp_ud (address m.fault m.primary) ci_variable (head m ++ water (whole last32 elapsed) k m)
user_data_value Fixed elapsed k m = long c_rsp_ud m.primary ci_fixed (fixed_data_value elapsed m)

-- "Busy: CI 70, data 08. Too_many: the third and later readouts since opening give CI 70, data 09"; 0: none. The
-- readouts count this one.
abbrev pub error : Fault → ℕ → ℕ
error None n = 0
error Checksum n = 0
error Truncated n = 0
error Busy n = 0x08
error WrongAddress n = 0
error Flaky n = 0
error TooMany n = if nat_lt 2 n then 0x09 else 0

-- what the meter, asked already, says: an error with C 08 and CI 70, or its data
unfoldable pub response : Float → Clock → PlainMeter → Telegram
response elapsed k m =
    if error m.fault m.readouts == 0 then user_data_value m.model elapsed k m
    else long c_rsp_ud m.primary ci_error (error m.fault m.readouts ∷ [])

-- ---- faults on the bytes

-- "Checksum flips the sum by 5A", the last byte but one; "truncated keeps the first half, rounded down"
unfoldable pub damaged : Fault → List ℕ → List ℕ
damaged None bs = bs
damaged Checksum bs = slice_set bs (length bs - 2) (bit_xor (at bs (length bs - 2)) 0x5A)
damaged Truncated bs = take (length bs / 2) bs
damaged Busy bs = bs
damaged WrongAddress bs = bs
damaged Flaky bs = bs
damaged TooMany bs = bs

-- the bytes that go out
unfoldable pub readout : Float → Clock → PlainMeter → List ℕ
readout elapsed k m = damaged m.fault (encode (response elapsed k m))
