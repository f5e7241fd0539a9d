-- 01's example, two water meters, and a refused list.
use mathlib.Core.Path.{◌≡◌, refl}
use mathlib.Core.List.{List, [], ◌∷◌}
use Prim.Native.Nat.{ℕ}
use lib.Ieee.{round, sub}
use Rattle.search.specs.Site.{site, october}
use Rattle.frame.specs.Frame.{sum, encode, parse_short_value, parse_body, parse_long_value, parse}
use Rattle.numbers.specs.Values.{little, bcd}
use Rattle.meter_identity.specs.Identity.{manufacturer_code_value, id_bytes_value, nibbles, in_base}
use Rattle.time_dates.specs.Dates.{type_g_value, type_f_value}
use Rattle.time_seconds.specs.Seconds.{whole, not_below0, elapsed_of_value}
use Rattle.meter.specs.Meter.{hears, offered}
use Rattle.meter_request.specs.Asking.{asked}
use Rattle.meter_select.specs.Matching.{alike, matches}
use Rattle.meter_reply.specs.Response.{user_data_value, response, damaged, readout}
use Rattle.meter_data.specs.UserData.{fixed_data_value, head, clock_f, heat_first_value, heat_second_value, electricity, water}
use Rattle.meter_step.specs.Hear.{target, nke, request, select, commanded, listens, hear}
use Rattle.meter.specs.Meter.{rates}
use Rattle.list_check.specs.Tables.{media, faults}
use Rattle.list.specs.Layout.{read_texts, read_records}
use Rattle.list_check.specs.Check.{good_id_value, good_manufacturer_value, check}
use Rattle.list_open.specs.Opening.{capacity, open_records, open_list_value}
use Rattle.list_meter.specs.Fresh.{other_than_bus_value, own_baud_value, seed_of_value, fresh}
use Rattle.segment.specs.Plain.{blank}
use Rattle.segment.specs.Calls.{after_opening}
use Rattle.segment_replies.specs.Replies.{joined}
use Rattle.segment_telegram.specs.Handled.{heard_by, handled}
use Rattle.segment_send.specs.Steps.{steps, handled_all}
use Rattle.segment_send.specs.Send.{send}
use Rattle.time_clock.specs.Fields.{good_clock_value}
use Rattle.search_walk.specs.Walk.{mask_digits, mask, reading, ask, probe, good, id_of, entry_of, read, ten, walk, whole_walk}
use Rattle.search.specs.SearchCall.{search_call}
use Rattle.listing_text.specs.Text.{in_decimal, number_text, line, first_line, report_of, refusal_of}
use Rattle.listing_text.specs.Listing.{lent_records, list_in, listed_search, listing_text_value, listing_of}

-- to unfold this is to unfold every definition that a listing computes with
everything : ℕ
unfolding sum encode parse_short_value parse_body parse_long_value parse little bcd type_g_value type_f_value manufacturer_code_value id_bytes_value nibbles in_base whole not_below0 elapsed_of_value round sub hears offered alike matches asked fixed_data_value head clock_f heat_first_value heat_second_value electricity water user_data_value response damaged readout rates target nke request select commanded listens hear media faults read_texts read_records good_id_value good_manufacturer_value check capacity other_than_bus_value own_baud_value seed_of_value fresh open_records open_list_value blank joined heard_by handled steps handled_all after_opening good_clock_value send mask_digits mask reading ask probe good id_of entry_of read ten walk whole_walk search_call in_decimal number_text line first_line report_of refusal_of site october lent_records list_in listed_search listing_text_value listing_of
everything = 0

-- water meters 12345678 and 12345699
pub two_water : List ℕ
two_water = 0x01 ∷ 0x00 ∷ 0x3E ∷ 0x1E ∷ 0x01 ∷ 0x01 ∷ 0x00 ∷ 0x00 ∷ 0x00 ∷ 0x00 ∷ 0x08 ∷ 0x31 ∷ 0x32 ∷ 0x33 ∷ 0x34 ∷ 0x35 ∷ 0x36 ∷ 0x37 ∷ 0x38 ∷ 0x03 ∷ 0x53 ∷ 0x45 ∷ 0x4E ∷ 0x05 ∷ 0x77 ∷ 0x61 ∷ 0x74 ∷ 0x65 ∷ 0x72 ∷ 0x04 ∷ 0x6E ∷ 0x6F ∷ 0x6E ∷ 0x65 ∷ 0x1E ∷ 0x02 ∷ 0x01 ∷ 0x00 ∷ 0x00 ∷ 0x00 ∷ 0x00 ∷ 0x08 ∷ 0x31 ∷ 0x32 ∷ 0x33 ∷ 0x34 ∷ 0x35 ∷ 0x36 ∷ 0x39 ∷ 0x39 ∷ 0x03 ∷ 0x53 ∷ 0x45 ∷ 0x4E ∷ 0x05 ∷ 0x77 ∷ 0x61 ∷ 0x74 ∷ 0x65 ∷ 0x72 ∷ 0x04 ∷ 0x6E ∷ 0x6F ∷ 0x6E ∷ 0x65 ∷ []

-- "2 entries, 71 probes", "one 12345678", "one 12345699"
pub two_water_lem : listing_of two_water ≡ 0x32 ∷ 0x20 ∷ 0x65 ∷ 0x6E ∷ 0x74 ∷ 0x72 ∷ 0x69 ∷ 0x65 ∷ 0x73 ∷ 0x2C ∷ 0x20 ∷ 0x37 ∷ 0x31 ∷ 0x20 ∷ 0x70 ∷ 0x72 ∷ 0x6F ∷ 0x62 ∷ 0x65 ∷ 0x73 ∷ 0x0A ∷ 0x6F ∷ 0x6E ∷ 0x65 ∷ 0x20 ∷ 0x31 ∷ 0x32 ∷ 0x33 ∷ 0x34 ∷ 0x35 ∷ 0x36 ∷ 0x37 ∷ 0x38 ∷ 0x0A ∷ 0x6F ∷ 0x6E ∷ 0x65 ∷ 0x20 ∷ 0x31 ∷ 0x32 ∷ 0x33 ∷ 0x34 ∷ 0x35 ∷ 0x36 ∷ 0x39 ∷ 0x39 ∷ 0x0A ∷ []
unfolding everything two_water
two_water_lem = refl

-- no byte: "refused 1"
pub none : listing_of [] ≡ 0x72 ∷ 0x65 ∷ 0x66 ∷ 0x75 ∷ 0x73 ∷ 0x65 ∷ 0x64 ∷ 0x20 ∷ 0x31 ∷ 0x0A ∷ []
unfolding everything
none = refl
