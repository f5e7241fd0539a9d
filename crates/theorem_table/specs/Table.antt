-- 01, "Table to be shown true": (a) to (l), and what they speak of.
use Rattle.std.specs.Prelude.{◌≡◌, Bool, false, List, [], ◌∷◌, ℕ, ◌+◌, ◌*◌, ◌≤◌, length}
use Rattle.std.specs.Float.{nan, binary64}
use Rattle.std.specs.Float.Ieee.{round}
use Rattle.laws.specs.Ascii.{ascii}
use Rattle.list_check.specs.Tables.{medium_heat, medium_water, fault_none, fault_busy}
use Rattle.list.specs.Written.{write_list_value}
use Rattle.search.specs.Site.{site, october}
use Rattle.frame.specs.Frame.{short, encode}
use Rattle.numbers.specs.Values.{bcd}
use Rattle.meter_identity.specs.Identity.{manufacturer_code_value, id_bytes_value}
use Rattle.time_dates.specs.Dates.{type_g_value}
use Rattle.time_seconds.specs.Seconds.{whole, last32, elapsed_of_value, zero_seconds}
use Rattle.time_clock.specs.declared.Clock.{Clock}
use Rattle.list_meter.specs.Fresh.{seed_of_value}
use Rattle.list_builtin.specs.Builtins.{ok10, KAM, SEN, meter}
use Rattle.list_open.specs.Opening.{opens, open_list_value}
use Rattle.segment.specs.Plain.{Plain}
use Rattle.segment_replies.specs.Replies.{joined}
use Rattle.segment_send.specs.Send.{send}
use Rattle.search_walk.specs.Walk.{mask_digits, mask, Entry, one, many, Walked, whole_walk}
use Rattle.search_walk.specs.Entries.{at_bus_baud, D}
use Rattle.search.specs.declared.EntryRecord.{EntryRecord}
use Rattle.search.specs.SearchCall.{search_call}

-- its search with an allowance of 10,000
abbrev pub walked : List ℕ → Walked
walked list = whole_walk october 10000 (site list)

-- entries, probes, spent or not
abbrev pub outcome : Walked → List Entry × ℕ × Bool
outcome w = (w.entries, w.probes, w.spent)

-- water SEN 11000011 at 11, fault busy
unfoldable pub busy_at11 : List ℕ
busy_at11 = write_list_value (meter 11 0x10 0 11000011 SEN medium_water fault_busy ∷ [])

-- "`01 00 00` is a list of no meters"
unfoldable pub no_meter : List ℕ
no_meter = 0x01 ∷ 0x00 ∷ 0x00 ∷ []

-- heat KAM 61000001 at 1, fault none
unfoldable pub one_meter : List ℕ
one_meter = write_list_value (meter 1 0x01 0 61000001 KAM medium_heat fault_none ∷ [])

-- water KAM 77777777 at 1, fault none; water SEN 77777777 at 2, fault none
unfoldable pub twice : List ℕ
twice = write_list_value (meter 1 0x01 0 77777777 KAM medium_water fault_none ∷ meter 2 0x01 0 77777777 SEN medium_water fault_none ∷ [])

pub record Table : Type 0 where
  -- (a) wildcard probe
  pub a : encode (mask []) ≡ 0x68 ∷ 0x0B ∷ 0x0B ∷ 0x68 ∷ 0x53 ∷ 0xFD ∷ 0x52 ∷ 0xFF ∷ 0xFF ∷ 0xFF ∷ 0xFF ∷ 0xFF ∷ 0xFF ∷ 0xFF ∷ 0xFF ∷ 0x9A ∷ 0x16 ∷ []
  -- (b) mask 1
  pub b : id_bytes_value (mask_digits (1 ∷ [])) ≡ 0xFF ∷ 0xFF ∷ 0xFF ∷ 0x1F ∷ []
  -- (c) KAM, SEN, empty
  pub c : (manufacturer_code_value (ascii "KAM") ≡ 0x2C2D) × (manufacturer_code_value (ascii "SEN") ≡ 0x4CAE) × (manufacturer_code_value [] ≡ 0x0000)
  -- (d) 12345 in four BCD bytes
  pub d : bcd 4 12345 ≡ 0x45 ∷ 0x23 ∷ 0x01 ∷ 0x00 ∷ []
  -- (e) busy at 11, asked by REQ_UD2
  pub e : (send (encode (short 0x5B 11)) october (site busy_at11)).segment.queue ≡ 0x68 ∷ 0x04 ∷ 0x04 ∷ 0x68 ∷ 0x08 ∷ 0x0B ∷ 0x70 ∷ 0x08 ∷ 0x8B ∷ 0x16 ∷ []
  -- (f) 01 F0 over 03
  pub f : joined ((0x01 ∷ 0xF0 ∷ []) ∷ (0x03 ∷ []) ∷ []) ≡ 0x01 ∷ 0xF0 ∷ []
  -- (g) 30.9.2026
  pub g : type_g_value 2026 9 30 ≡ 0x5E ∷ 0x39 ∷ []
  -- (h) 59.9 s, the f64 nearest to 599 / 10, and NaN
  pub h : (whole last32 (elapsed_of_value (round binary64 false 599 10) zero_seconds) ≡ 59) × (whole last32 (elapsed_of_value nan zero_seconds) ≡ 0)
  -- (i) the seed of id 12345678
  pub i : seed_of_value false (1 ∷ 2 ∷ 3 ∷ 4 ∷ 5 ∷ 6 ∷ 7 ∷ 8 ∷ []) ≡ 43672
  -- (j) no meter (the list is opened, not refused), one meter; "no meter or one: 1 probe" of every segment with at
  -- most one meter at bus baud, a flaky one too:
  -- a search that is not refused and may make a probe makes 1 and is not spent; and its price
  pub j_opens : open_list_value no_meter 2400 false ≡ opens []
  pub j_none : outcome (walked no_meter) ≡ ([], 1, false)
  pub j_one : outcome (walked one_meter) ≡ (one (6 ∷ 1 ∷ 0 ∷ 0 ∷ 0 ∷ 0 ∷ 0 ∷ 1 ∷ []) ∷ [], 1, false)
  pub j : (k : Clock) (allowance : ℕ) (lent : List EntryRecord) (s : Plain) → (search_call k allowance lent s).number ≡ 0 → 1 ≤ allowance → length (at_bus_baud s) ≤ 1
      → ((search_call k allowance lent s).probes ≡ 1) × ((search_call k allowance lent s).spent ≡ false)
  pub j_price : (s : Plain) → length (at_bus_baud s) ≤ 1 → 1 + 10 * D (at_bus_baud s) ≡ 1
  -- (k) 77777777 twice
  pub k : outcome (walked twice) ≡ (many (7 ∷ 7 ∷ 7 ∷ 7 ∷ 7 ∷ 7 ∷ 7 ∷ 7 ∷ []) 2 ∷ [], 81, false)
  -- (l) ok10 at 2400: 201 probes, and its price
  pub l : (walked ok10).probes ≡ 201
  pub l_price : 1 + 10 * D (at_bus_baud (site ok10)) ≡ 201
