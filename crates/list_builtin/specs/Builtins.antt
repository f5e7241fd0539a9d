-- The built-in lists praxis, ok10, mfh30 and bauds: "kept as constant bytes in the list layout, records in the Rust's
-- order, without names".
use Rattle.std.specs.Prelude.{List, [], ◌∷◌, map, ℕ, ◌+◌, ◌/◌, ◌%◌}
use Rattle.laws.specs.Ascii.{ascii}
use Rattle.list.specs.Layout.{Listed}
use Rattle.list.specs.Written.{write_list_value}
use Rattle.list_check.specs.Tables.{Medium, FaultKey, medium_heat, medium_water, medium_cold_water, medium_warm_water, medium_gas, medium_electricity, medium_heat_old, fault_none, fault_checksum, fault_truncated, fault_busy, fault_wrong_address, fault_flaky, fault_too_many}

-- ---- a record of a list

-- an id as text, eight digits
unfoldable pub id_text : ℕ → List ℕ
id_text n = map (λ d. 0x30 + n / d % 10) (10000000 ∷ 1000000 ∷ 100000 ∷ 10000 ∷ 1000 ∷ 100 ∷ 10 ∷ 1 ∷ [])

abbrev ABB : List ℕ
ABB = ascii "ABB"

abbrev ELS : List ℕ
ELS = ascii "ELS"

abbrev pub KAM : List ℕ
KAM = ascii "KAM"

abbrev pub SEN : List ℕ
SEN = ascii "SEN"

abbrev ZRI : List ℕ
ZRI = ascii "ZRI"

-- primary, version, own baud (0: the bus's), id, manufacturer, medium, fault
abbrev pub meter : ℕ → ℕ → ℕ → ℕ → List ℕ → Medium → FaultKey → Listed
meter primary version baud id manufacturer medium fault =
    record { primary = primary; version = version; baud = baud; id = id_text id; manufacturer = manufacturer; medium = medium.key; fault = fault.key }

-- ---- the lists

-- real life with typical faults, 20 meters
unfoldable pub praxis : List ℕ
praxis =
    write_list_value
    (meter 1 0x1B 0 12345678 KAM medium_heat fault_none
    ∷ meter 2 0x02 0 87654321 ABB medium_electricity fault_none
    ∷ meter 3 0x10 0 30000001 SEN medium_water fault_none
    ∷ meter 0 0x10 0 12345699 SEN medium_cold_water fault_none
    ∷ meter 0 0x01 0 55500011 ZRI medium_warm_water fault_none
    ∷ meter 4 0x10 0 40000004 SEN medium_water fault_checksum
    ∷ meter 5 0x10 0 50000005 SEN medium_water fault_truncated
    ∷ meter 7 0x00 0 70000007 [] medium_heat_old fault_none
    ∷ meter 10 0x1B 0 10000010 KAM medium_heat fault_none
    ∷ meter 10 0x1B 0 10000011 KAM medium_heat fault_none
    ∷ meter 11 0x10 0 11000011 SEN medium_water fault_busy
    ∷ meter 12 0x10 0 12000012 SEN medium_water fault_wrong_address
    ∷ meter 14 0x10 0 77777777 SEN medium_water fault_none
    ∷ meter 15 0x01 0 77777777 ZRI medium_water fault_none
    ∷ meter 16 0x10 0 16000016 SEN medium_cold_water fault_flaky
    ∷ meter 17 0x10 0 88888888 SEN medium_water fault_none
    ∷ meter 18 0x10 0 88888888 SEN medium_water fault_none
    ∷ meter 19 0x10 0 19000019 SEN medium_water fault_too_many
    ∷ meter 9 0x01 300 90000009 SEN medium_water fault_none
    ∷ meter 6 0x10 9600 60000006 SEN medium_water fault_none
    ∷ [])

-- ten meters, all in order
unfoldable pub ok10 : List ℕ
ok10 =
    write_list_value
    (meter 1 0x01 0 61000001 KAM medium_heat fault_none
    ∷ meter 2 0x01 0 61000002 KAM medium_heat fault_none
    ∷ meter 3 0x01 0 61000003 KAM medium_heat fault_none
    ∷ meter 4 0x01 0 62000004 SEN medium_cold_water fault_none
    ∷ meter 5 0x01 0 62000005 SEN medium_cold_water fault_none
    ∷ meter 6 0x01 0 62000006 SEN medium_cold_water fault_none
    ∷ meter 7 0x01 0 63000007 ZRI medium_warm_water fault_none
    ∷ meter 8 0x01 0 63000008 ZRI medium_warm_water fault_none
    ∷ meter 9 0x01 0 64000009 ABB medium_electricity fault_none
    ∷ meter 10 0x01 0 65000010 ELS medium_gas fault_none
    ∷ [])

-- an apartment block: ten flats, thirty meters
unfoldable pub mfh30 : List ℕ
mfh30 =
    write_list_value
    (meter 1 0x01 0 71000001 KAM medium_heat fault_none
    ∷ meter 11 0x01 0 72000001 SEN medium_cold_water fault_none
    ∷ meter 21 0x01 0 73000001 SEN medium_warm_water fault_none
    ∷ meter 2 0x01 0 71000002 KAM medium_heat fault_none
    ∷ meter 12 0x01 0 72000002 SEN medium_cold_water fault_none
    ∷ meter 22 0x01 0 73000002 SEN medium_warm_water fault_none
    ∷ meter 3 0x01 0 71000003 KAM medium_heat fault_none
    ∷ meter 13 0x01 0 72000003 SEN medium_cold_water fault_none
    ∷ meter 23 0x01 0 73000003 SEN medium_warm_water fault_none
    ∷ meter 4 0x01 0 71000004 KAM medium_heat fault_none
    ∷ meter 14 0x01 0 72000004 SEN medium_cold_water fault_none
    ∷ meter 24 0x01 0 73000004 SEN medium_warm_water fault_none
    ∷ meter 5 0x01 0 71000005 KAM medium_heat fault_none
    ∷ meter 15 0x01 0 72000005 SEN medium_cold_water fault_none
    ∷ meter 25 0x01 0 73000005 SEN medium_warm_water fault_none
    ∷ meter 6 0x01 0 71000006 KAM medium_heat fault_none
    ∷ meter 16 0x01 0 72000006 SEN medium_cold_water fault_none
    ∷ meter 26 0x01 0 73000006 SEN medium_warm_water fault_none
    ∷ meter 7 0x01 0 71000007 KAM medium_heat fault_none
    ∷ meter 17 0x01 0 72000007 SEN medium_cold_water fault_none
    ∷ meter 27 0x01 0 73000007 SEN medium_warm_water fault_none
    ∷ meter 8 0x01 0 71000008 KAM medium_heat fault_none
    ∷ meter 18 0x01 0 72000008 SEN medium_cold_water fault_none
    ∷ meter 28 0x01 0 73000008 SEN medium_warm_water fault_none
    ∷ meter 9 0x01 0 71000009 KAM medium_heat fault_none
    ∷ meter 19 0x01 0 72000009 SEN medium_cold_water fault_none
    ∷ meter 29 0x01 0 73000009 SEN medium_warm_water fault_none
    ∷ meter 10 0x01 0 71000010 KAM medium_heat fault_none
    ∷ meter 20 0x01 0 72000010 SEN medium_cold_water fault_none
    ∷ meter 30 0x01 0 73000010 SEN medium_warm_water fault_none
    ∷ [])

-- mixed baud rates, eight meters
unfoldable pub bauds : List ℕ
bauds =
    write_list_value
    (meter 1 0x01 0 81000001 KAM medium_heat fault_none
    ∷ meter 2 0x01 0 81000002 KAM medium_heat fault_none
    ∷ meter 3 0x01 0 82000003 SEN medium_water fault_none
    ∷ meter 4 0x01 0 82000004 SEN medium_water fault_none
    ∷ meter 5 0x01 9600 83000005 ABB medium_electricity fault_none
    ∷ meter 6 0x01 9600 83000006 ABB medium_electricity fault_none
    ∷ meter 7 0x01 300 84000007 SEN medium_water fault_none
    ∷ meter 8 0x01 300 84000008 SEN medium_water fault_none
    ∷ [])
