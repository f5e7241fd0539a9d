-- The data of a meter's reply (01, "A lone meter is read"): `rsp_ud`'s layout, by the meter's model.
use Rattle.std.specs.Prelude.{List, [], ◌∷◌, ◌++◌, ℕ, ◌+◌, ◌*◌, ◌/◌, ◌%◌, eqb, Float, if◌then◌else◌}
use Rattle.laws.specs.Ascii.{ascii}
use Rattle.numbers.specs.Values.{little, bcd}
use Rattle.time_dates.specs.Dates.{type_g_value, type_f_value}
use Rattle.meter_identity.specs.Identity.{id_bytes_value}
use Rattle.time_seconds.specs.Seconds.{whole, last64}
use Rattle.time_clock.specs.declared.Clock.{Clock}
use Rattle.meter.specs.PlainMeter.{PlainMeter}

-- heat_old, CI 73: id, access number, status, units (kWh and m³, medium heat), two counters
unfoldable pub fixed_data_value : Float → PlainMeter → List ℕ
fixed_data_value elapsed m =
    id_bytes_value m.digits ++ (m.access ∷ 0x00 ∷ 0x05 ∷ 0x6C ∷ [])
    ++ bcd 4 (12345 + m.seed + whole last64 elapsed / 60)
    ++ bcd 4 678

-- the others, CI 72, begin so: id, manufacturer, version, medium, access number, status, signature
unfoldable pub head : PlainMeter → List ℕ
head m = id_bytes_value m.digits ++ little 2 m.manufacturer ++ (m.version ∷ m.medium ∷ m.access ∷ 0x00 ∷ 0x00 ∷ 0x00 ∷ [])

-- the clock's date and time, as a meter writes them
unfoldable pub clock_f : Clock → List ℕ
clock_f k = type_f_value k.year k.month k.day k.hour k.minute

-- Heat, part 0; t: the whole seconds
unfoldable pub heat_first_value : ℕ → Clock → PlainMeter → List ℕ
heat_first_value t k m =
    0x04 ∷ 0x06 ∷ little 4 (123456 + m.seed + t / 10)
    ++ 0x04 ∷ 0x14 ∷ little 4 (456789 + m.seed * 3 + t / 4)
    ++ 0x04 ∷ 0x2B ∷ little 4 (12345 + t % 50)
    ++ 0x02 ∷ 0x59 ∷ little 2 6523
    ++ 0x02 ∷ 0x5D ∷ little 2 4210
    ++ 0x02 ∷ 0x61 ∷ little 2 2313
    ++ 0x04 ∷ 0x3B ∷ little 4 1234
    ++ 0x04 ∷ 0x6D ∷ clock_f k
    ++ 0x44 ∷ 0x06 ∷ little 4 120000
    ++ 0x42 ∷ 0x6C ∷ type_g_value 2026 9 30
    ++ 0x01 ∷ 0xFD ∷ 0x17 ∷ 0x00 ∷ []
    ++ 0x0C ∷ 0x78 ∷ id_bytes_value m.digits
    ++ 0x1F ∷ []

-- Heat, the other part
unfoldable pub heat_second_value : List ℕ
heat_second_value =
    0x84 ∷ 0x01 ∷ 0x06 ∷ little 4 110000
    ++ 0x82 ∷ 0x01 ∷ 0x6C ∷ type_g_value 2025 9 30
    ++ 0x0F ∷ 0x01 ∷ 0x02 ∷ 0x03 ∷ []

-- Heat, the part that it is at
abbrev pub heat_now : ℕ → Clock → PlainMeter → List ℕ
heat_now t k m = if eqb m.part 0 then heat_first_value t k m else heat_second_value

-- Electricity; 3.5 as an f32 is 00 00 60 40, and the text "1.02" goes backwards
unfoldable pub electricity : ℕ → PlainMeter → List ℕ
electricity t m =
    0x0E ∷ 0x03 ∷ bcd 6 (12345678 + m.seed * 1000 + t)
    ++ 0x8E ∷ 0x10 ∷ 0x03 ∷ bcd 6 8000000
    ++ 0x8E ∷ 0x20 ∷ 0x03 ∷ bcd 6 4345678
    ++ 0x04 ∷ 0x2B ∷ little 4 (2300 + t % 100)
    ++ 0x05 ∷ 0x2E ∷ 0x00 ∷ 0x00 ∷ 0x60 ∷ 0x40 ∷ []
    ++ 0x04 ∷ 0xFD ∷ 0x48 ∷ little 4 2301
    ++ 0x04 ∷ 0xFD ∷ 0x59 ∷ little 4 5123
    ++ 0x0D ∷ 0xFD ∷ 0x0E ∷ 0x04 ∷ ascii "20.1"

-- Water
unfoldable pub water : ℕ → Clock → PlainMeter → List ℕ
water t k m =
    0x0C ∷ 0x13 ∷ bcd 4 (123456 + m.seed * 7 + t)
    ++ 0x4C ∷ 0x13 ∷ bcd 4 100000
    ++ 0x42 ∷ 0x6C ∷ type_g_value 2025 12 31
    ++ 0x04 ∷ 0x6D ∷ clock_f k
