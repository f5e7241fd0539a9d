-- What a telegram does to one meter (01, "Send, select, receive", "A lone meter is read", "The remaining telegrams"):
-- the meter afterwards, and its reply.
use Rattle.std.specs.Prelude.{Bool, true, false, ◌&&◌, ◌||◌, not, List, [], ◌∷◌, ℕ, ◌-◌, eqb, leb, Float, length, get_or, if◌then◌else◌}
use Rattle.std.specs.Int.Bits.{bit_and}
use Rattle.laws.specs.Words.{at}
use Rattle.frame.specs.Protocol.{ack_byte, c_snd_nke, fcb_bit, c_mask, c_snd_ud_masked, c_req_ud2_masked, addr_selected, addr_broadcast_reply, addr_broadcast, ci_app_reset, ci_data_send, ci_select, ci_first_baud, ci_last_baud}
use Rattle.frame.specs.Frame.{Telegram, ack, short, long}
use Rattle.meter.specs.PlainMeter.{PlainMeter}
use Rattle.time_clock.specs.declared.Clock.{Clock}
use Rattle.meter.specs.Meter.{rates, with_primary_value, with_baud_value, with_selected_value, reset, hears, offered}
use Rattle.meter_request.specs.Asking.{asked}
use Rattle.meter_select.specs.Matching.{matches}
use Rattle.meter_reply.specs.Response.{readout}

-- no reply, or its bytes
pub data Reply : Type 0 where
  silence : Reply
  says : List ℕ → Reply

-- the meter afterwards and its reply
pub record Heard : Type 0 where
  pub meter : PlainMeter
  pub reply : Reply

abbrev pub quiet : PlainMeter → Heard
quiet m = record { meter = m; reply = silence }

abbrev pub answers : List ℕ → PlainMeter → Heard
answers bs m = record { meter = m; reply = says bs }

abbrev pub E5 : List ℕ
E5 = ack_byte ∷ []

-- ---- which telegram it is

-- "NKE (short, C exactly 40)"
abbrev pub is_nke_value : ℕ → Bool
is_nke_value c = eqb c c_snd_nke

-- "REQ_UD2: short, C masked with CF is 4B"; its FCB is the bit 20
abbrev pub is_req_ud2_value : ℕ → Bool
is_req_ud2_value c = eqb (bit_and c c_mask) c_req_ud2_masked

abbrev pub fcb_of_value : ℕ → Bool
fcb_of_value c = not (eqb (bit_and c fcb_bit) 0)

-- "SND_UD (C masked with CF is 43)"
abbrev pub is_snd_ud_value : ℕ → Bool
is_snd_ud_value c = eqb (bit_and c c_mask) c_snd_ud_masked

-- "Select (C masked with CF is 43, CI 52, address FD)": a SND_UD with this CI and address
abbrev pub is_select_value : ℕ → ℕ → Bool
is_select_value ci a = eqb ci ci_select && eqb a addr_selected

-- "CI 51, data 01 7A p"
abbrev pub sets_primary_value : ℕ → List ℕ → Bool
sets_primary_value ci d = eqb ci ci_data_send && eqb (length d) 3 && eqb (at d 0) 0x01 && eqb (at d 1) 0x7A

-- "CI B8..BF, no data"
abbrev pub sets_baud_value : ℕ → List ℕ → Bool
sets_baud_value ci d = leb ci_first_baud ci && leb ci ci_last_baud && eqb (length d) 0

-- "Their target is: FE, FF all; FD the selected; else equal primary"
abbrev pub reaches : ℕ → (primary : ℕ) → (selected : Bool) → Bool
reaches a primary selected =
    if eqb a addr_broadcast_reply || eqb a addr_broadcast then true else
    if eqb a addr_selected then selected else
    eqb primary a

unfoldable pub target : ℕ → PlainMeter → Bool
target a m = reaches a m.primary m.selected

-- ---- what each does

-- "NKE (short, C exactly 40) resets a hearing target, deselects it for FD and FF, one E5."; a target that does not
-- hear it has had it put to it all the same
unfoldable pub nke : ℕ → PlainMeter → Heard
nke a m =
    if hears m then answers E5 (if eqb a addr_selected || eqb a addr_broadcast then with_selected_value false (reset (offered m)) else reset (offered m))
    else quiet (offered m)

-- "each target that hears replies"
unfoldable pub request : Bool → Float → Clock → PlainMeter → Heard
request fcb elapsed k m =
    if hears m then (let n = asked fcb (offered m) in answers (readout elapsed k n) n)
    else quiet (offered m)

-- "becomes selected exactly if the first eight data bytes match and it hears; a newly computed yes resets part and
-- last FCB and gives one E5";
-- "a mask that misses it doesn't count" as put to it
unfoldable pub select : List ℕ → PlainMeter → Heard
select d m =
    if matches d m then
    (if hears m then answers E5 (reset (with_selected_value true (offered m))) else quiet (with_selected_value false (offered m)))
    else quiet (with_selected_value false m)

-- "primary becomes p"; "rate number CI − B8 of BAUD_RATES, from 0"; "CI 50, any data: reset".
-- "These three, in SND_UD (C masked with CF is 43), give one E5 for each target and take no notice of flaky. Others
-- do nothing."
unfoldable pub commanded : ℕ → List ℕ → PlainMeter → Heard
commanded ci d m =
    if sets_primary_value ci d then answers E5 (with_primary_value (at d 2) m) else
    if sets_baud_value ci d then answers E5 (with_baud_value (get_or rates (ci - ci_first_baud) 0) m) else
    if eqb ci ci_app_reset then answers E5 (reset m) else
    quiet m

-- a meter at bus baud: ACK does nothing; a select goes to every one, what else there is to the targets alone
unfoldable pub listens : Telegram → Float → Clock → PlainMeter → Heard
listens ack elapsed k m = quiet m
listens (short c a) elapsed k m =
    if is_nke_value c then (if target a m then nke a m else quiet m) else
    if is_req_ud2_value c then (if target a m then request (fcb_of_value c) elapsed k m else quiet m) else
    quiet m
listens (long c a ci d) elapsed k m =
    if not (is_snd_ud_value c) then quiet m else
    if is_select_value ci a then select d m else
    if target a m then commanded ci d m else
    quiet m

-- "Only meters at bus baud listen."
unfoldable pub hear : ℕ → Telegram → Float → Clock → PlainMeter → Heard
hear bus t elapsed k m = if eqb m.baud bus then listens t elapsed k m else quiet m
