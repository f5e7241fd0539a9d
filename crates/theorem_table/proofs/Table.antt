-- The table, line by line: by computation, but for what (j) says of every segment and the price of (l).
use mathlib.Core.Path.{◌≡◌, refl}
use mathlib.Core.Bool.{false}
use mathlib.Core.List.{List, [], ◌∷◌}
use Prim.Native.Nat.{ℕ, ◌+◌, ◌*◌}
use native.Mathlib.Omega.{arith}
use lib.Ieee.{round, sub}
use lib.ListN.{replicate}
use Rattle.search.specs.Site.{site, october}
use Rattle.list.specs.Written.{write_texts, write_rest, write_records_value, write_list_value}
use Rattle.frame.specs.Frame.{short, encode, sum, parse, parse_short_value, parse_long_value, parse_body}
use Rattle.numbers.specs.Values.{bcd, little}
use Rattle.meter_identity.specs.Identity.{manufacturer_code_value, id_bytes_value, nibbles, in_base}
use Rattle.time_dates.specs.Dates.{type_g_value, type_f_value}
use Rattle.time_seconds.specs.Seconds.{whole, elapsed_of_value, not_below0, zero_seconds}
use Rattle.meter.specs.Meter.{hears, offered}
use Rattle.meter_request.specs.Asking.{asked}
use Rattle.meter_select.specs.Matching.{alike, matches}
use Rattle.meter_reply.specs.Response.{user_data_value, response, damaged, readout}
use Rattle.meter_data.specs.UserData.{fixed_data_value, head, clock_f, heat_first_value, heat_second_value, electricity, water}
use Rattle.meter_step.specs.Hear.{target, nke, request, select, commanded, listens, hear}
use Rattle.meter.specs.Meter.{rates}
use Rattle.list_check.specs.Tables.{media, faults}
use Rattle.list.specs.Layout.{read_texts, read_records}
use Rattle.list_check.specs.Check.{good_id_value, good_manufacturer_value, check}
use Rattle.list_open.specs.Opening.{capacity, opens, open_records, open_list_value}
use Rattle.list_meter.specs.Fresh.{other_than_bus_value, own_baud_value, seed_of_value, fresh}
use Rattle.list_builtin.specs.Builtins.{ok10, id_text}
use Rattle.segment.specs.Plain.{blank}
use Rattle.segment.specs.Calls.{after_opening}
use Rattle.segment_replies.specs.Replies.{joined}
use Rattle.segment_telegram.specs.Handled.{heard_by, handled}
use Rattle.segment_send.specs.Steps.{steps, handled_all}
use Rattle.segment_send.specs.Send.{send}
use Rattle.time_clock.specs.Fields.{good_clock_value}
use Rattle.search_walk.specs.Walk.{one, many, mask_digits, mask, reading, ask, probe, good, id_of, entry_of, read, ten, walk, whole_walk}
use Rattle.search.specs.SearchCall.{search_call}
use Rattle.search_walk.specs.Entries.{at_bus_baud, D}
use Rattle.search.specs.declared.EntryRecord.{EntryRecord}
use Rattle.search.specs.declared.Kind.TheVariants.{One}
use Rattle.search.specs.Demanded.{Demanded}
use Rattle.search_walk.proofs.Bound.{D_none}
use Rattle.search.proofs.Demanded.{demanded}
use Rattle.search.proofs.WellLaws.{opening_well, blank_well}
use Rattle.theorem_table.proofs.OneProbe.{one_probe}
use Rattle.theorem_table.specs.Table.{walked, outcome, busy_at11, no_meter, one_meter, twice, Table}

-- to unfold this is to unfold every definition that a search computes with
everything : ℕ
unfolding encode sum parse parse_short_value parse_long_value parse_body manufacturer_code_value bcd type_g_value type_f_value id_bytes_value nibbles in_base little whole elapsed_of_value sub round not_below0 hears offered alike matches asked fixed_data_value head clock_f heat_first_value heat_second_value electricity water user_data_value response damaged readout rates target nke request select commanded listens hear media faults read_texts read_records good_id_value good_manufacturer_value check capacity other_than_bus_value own_baud_value seed_of_value fresh open_records open_list_value blank joined heard_by handled steps handled_all after_opening good_clock_value send ten walk whole_walk mask_digits mask reading ask probe good id_of entry_of read site october
everything = 0

-- and this, what a list's records are written by
written : ℕ
unfolding id_text write_list_value write_records_value write_rest write_texts
written = 0

line_a : encode (mask []) ≡ 0x68 ∷ 0x0B ∷ 0x0B ∷ 0x68 ∷ 0x53 ∷ 0xFD ∷ 0x52 ∷ 0xFF ∷ 0xFF ∷ 0xFF ∷ 0xFF ∷ 0xFF ∷ 0xFF ∷ 0xFF ∷ 0xFF ∷ 0x9A ∷ 0x16 ∷ []
unfolding everything
line_a = refl

line_e : (send (encode (short 0x5B 11)) october (site busy_at11)).segment.queue ≡ 0x68 ∷ 0x04 ∷ 0x04 ∷ 0x68 ∷ 0x08 ∷ 0x0B ∷ 0x70 ∷ 0x08 ∷ 0x8B ∷ 0x16 ∷ []
unfolding everything written busy_at11
line_e = refl

line_j_opens : open_list_value no_meter 2400 false ≡ opens []
unfolding everything written no_meter
line_j_opens = refl

line_j_none : outcome (walked no_meter) ≡ ([], 1, false)
unfolding everything written no_meter
line_j_none = refl

line_j_one : outcome (walked one_meter) ≡ (one (6 ∷ 1 ∷ 0 ∷ 0 ∷ 0 ∷ 0 ∷ 0 ∷ 1 ∷ []) ∷ [], 1, false)
unfolding everything written one_meter
line_j_one = refl

line_k : outcome (walked twice) ≡ (many (7 ∷ 7 ∷ 7 ∷ 7 ∷ 7 ∷ 7 ∷ 7 ∷ 7 ∷ []) 2 ∷ [], 81, false)
unfolding everything written twice
line_k = refl

line_l : (walked ok10).probes ≡ 201
unfolding everything written ok10
line_l = refl

not_spent : (walked ok10).spent ≡ false
unfolding everything written ok10
not_spent = refl

-- ---- the price of ok10, by demand 3: its first and only search

lent : List EntryRecord
lent = replicate 64 (record { kind = One; digits = replicate 8 0; count = 0 })

ok10_demanded : Demanded 10000 lent (site ok10) (walked ok10) (search_call october 10000 lent (site ok10))
unfolding everything written ok10 search_call lent
ok10_demanded = demanded october 10000 lent (site ok10) (opening_well ok10 2400 false zero_seconds blank blank_well) refl

line_l_price : 1 + 10 * D (at_bus_baud (site ok10)) ≡ 201
unfolding everything written ok10
line_l_price = omega (arith, line_l, ((ok10_demanded.steady (refl, (refl, (refl, (refl, (refl, (refl, (refl, (refl, (refl, (refl, tt))))))))))).complete not_spent).probes)

pub table : Table
unfolding manufacturer_code_value bcd id_bytes_value mask_digits type_g_value joined whole elapsed_of_value round sub seed_of_value in_base
table =
    record {
      a = line_a;
      b = refl;
      c = (refl, refl, refl);
      d = refl;
      e = line_e;
      f = refl;
      g = refl;
      h = (refl, refl);
      i = refl;
      j_opens = line_j_opens;
      j_none = line_j_none;
      j_one = line_j_one;
      j = one_probe;
      j_price = λ s h. omega (arith, D_none (at_bus_baud s) h);
      k = line_k;
      l = line_l;
      l_price = line_l_price;
    }
