-- A probe and a reading of a segment at rest: what comes back, and the segment afterwards. Neither is ever refused.
use Rattle.std.specs.Prelude.{if◌then◌else◌}
use mathlib.Core.Path.{◌≡◌, refl, ap, ◌∙◌}
use mathlib.Core.Bool.{Bool, true, false, ◌&&◌}
use mathlib.Core.List.{List, [], map, map-map}
use Prim.Native.Nat.{ℕ, ◌≤◌}
use native.Mathlib.Omega.{arith}
use lib.Dec.{eqb}
use lib.Ieee.{Float}
use lib.ListN.{length, length-map}
use Rattle.laws.specs.Words.{keep, Every}
use Rattle.laws.proofs.Lists.{every_map, every_all, every_image, length-keep}
use Rattle.frame.specs.Frame.{Telegram, encode}
use Rattle.time_seconds.specs.Seconds.{elapsed_of_value}
use Rattle.meter.specs.PlainMeter.{PlainMeter}
use Rattle.time_clock.specs.declared.Clock.{Clock}
use Rattle.meter.specs.Meter.{hears, offered}
use Rattle.meter_request.specs.Asking.{asked}
use Rattle.meter_reply.specs.Response.{readout}
use Rattle.meter_step.specs.Hear.{silence, says, E5, hear}
use Rattle.meter_step.proofs.HearLaws.{probed_reply, read_reply}
use Rattle.meter_reply.proofs.ReadoutLaws.{readout_short}
use Rattle.list_open.specs.Opening.{capacity}
use Rattle.segment.specs.Plain.{Plain, with_queue}
use Rattle.segment.specs.Calls.{Done, accepted}
use Rattle.segment_replies.specs.Replies.{joined}
use Rattle.segment_telegram.specs.Handled.{replies, to_broadcast_value}
use Rattle.segment_send.specs.Send.{send}
use Rattle.time_clock.specs.Fields.{good_clock_value}
use Rattle.segment_replies.proofs.JoinLaws.{joined_acks, count_acks, joined_short}
use Rattle.segment_telegram.proofs.RepliesLaws.{replies-keep}
use Rattle.segment_send.proofs.SendLaws.{at_rest_value, sent_to, after_sent, send-rest}
use Rattle.search_walk.specs.Walk.{mask, reading, ask, probe, entry_of, read}
use Rattle.search_walk.specs.Entries.{begins, at_bus}
use Rattle.search_walk.proofs.Model.{Prefix}
use Rattle.search_walk.proofs.MaskLaws.{mask_data, mask_short, mask-matches}

-- a telegram is asked of a segment at rest
ask-rest : (k : Clock) (b : ℕ) (o : Float) (ms : List PlainMeter) (t : Telegram) → send (encode t) k (at_rest_value b o ms) ≡ accepted (after_sent k b o ms t)
    → ask k t (at_rest_value b o ms) ≡ (joined (replies (sent_to k b o ms t)), at_rest_value b o (map (λ m. (hear b t (elapsed_of_value k.now o) k m).meter) ms))
unfolding ask
ask-rest k b o ms t h =
    ap (λ (r : Done). (r.segment.queue, with_queue [] r.segment)) h
    ∙ ap (λ ns. (joined (replies (sent_to k b o ms t)), at_rest_value b o ns)) (map-map (λ h. h.meter) (hear b t (elapsed_of_value k.now o) k) ms)

pub mask_one : (p : List ℕ) → to_broadcast_value (mask p) ≡ false
unfolding mask
mask_one p = refl

module _ (k : Clock) (b : ℕ) (o : Float) where
  abbrev pub secs : Float
  secs = elapsed_of_value k.now o

  -- who answers a mask: at bus baud, with the prefix, and hearing
  abbrev pub called : List ℕ → PlainMeter → Bool
  called p m = at_bus b m && (begins p m.digits && hears m)

  -- who answers a reading
  abbrev pub asks : PlainMeter → Bool
  asks m = at_bus b m && (m.selected && hears m)

  abbrev pub probed_m : List ℕ → PlainMeter → PlainMeter
  probed_m p m = (hear b (mask p) secs k m).meter

  abbrev pub read_m : PlainMeter → PlainMeter
  read_m m = (hear b reading secs k m).meter

  -- ---- masks

  mask-replies : (p : List ℕ) → Prefix p → (ms : List PlainMeter) → Every (λ m. length m.digits ≡ 8) ms
      → replies (sent_to k b o ms (mask p)) ≡ map (λ m. E5) (keep (called p) ms)
  unfolding mask
  mask-replies p w ms ids =
      replies-keep (hear b (mask p) secs k) (called p) (λ m. E5) ms
      (every_map (λ m i. probed_reply b secs k m (mask_data p) ∙ ap (λ c. if at_bus b m && (c && hears m) then says E5 else silence) (mask-matches p m w i)) ms ids)

  mask-joined : (p : List ℕ) → Prefix p → (ms : List PlainMeter) → Every (λ m. length m.digits ≡ 8) ms
      → joined (replies (sent_to k b o ms (mask p))) ≡ map (λ m. 0xE5) (keep (called p) ms)
  mask-joined p w ms ids = ap joined (mask-replies p w ms ids) ∙ joined_acks (keep (called p) ms)

  module _ (gc : good_clock_value k ≡ true) where
    pub mask_sent : (p : List ℕ) → Prefix p → (ms : List PlainMeter) → Every (λ m. length m.digits ≡ 8) ms → length ms ≤ capacity
        → send (encode (mask p)) k (at_rest_value b o ms) ≡ accepted (after_sent k b o ms (mask p))
    unfolding capacity
    mask_sent p w ms ids few =
        send-rest k b o ms (mask p) gc (mask_short p) (mask_one p)
        (rw (mask-joined p w ms ids) (omega (arith, length-map {B = ℕ} (keep (called p) ms) (λ m. 0xE5), length-keep (called p) ms)))

    pub probe-rest : (p : List ℕ) → Prefix p → (ms : List PlainMeter) → Every (λ m. length m.digits ≡ 8) ms → length ms ≤ capacity
        → probe k p (at_rest_value b o ms) ≡ (length (keep (called p) ms), at_rest_value b o (map (probed_m p) ms))
    unfolding probe
    probe-rest p w ms ids few =
        ap (λ (r : List ℕ × Plain). (length (keep (λ c. eqb c 0xE5) r.0), r.1)) (ask-rest k b o ms (mask p) (mask_sent p w ms ids few))
        ∙ ap (λ n. (n, at_rest_value b o (map (probed_m p) ms))) (ap (λ bs. length (keep (λ c. eqb c 0xE5) bs)) (mask-joined p w ms ids) ∙ count_acks (keep (called p) ms))

    -- ---- readings

    abbrev pub readouts : List PlainMeter → List (List ℕ)
    readouts ms = map (λ m. readout secs k (asked false (offered m))) (keep asks ms)

    reading-replies : (ms : List PlainMeter) → replies (sent_to k b o ms reading) ≡ readouts ms
    unfolding reading
    reading-replies ms = replies-keep (hear b reading secs k) asks (λ m. readout secs k (asked false (offered m))) ms (every_all (read_reply b secs k) ms)

    reading_bounds : to_broadcast_value reading ≡ false
    unfolding reading
    reading_bounds = refl

    reading_short : length (encode reading) ≤ 1024
    unfolding reading encode
    reading_short = omega arith

    pub reading_sent : (ms : List PlainMeter) → length ms ≤ capacity → send (encode reading) k (at_rest_value b o ms) ≡ accepted (after_sent k b o ms reading)
    unfolding capacity
    reading_sent ms few =
        send-rest k b o ms reading gc reading_short reading_bounds
        (rw (reading-replies ms) (omega (
          arith,
          joined_short 93 (readouts ms) (every_image (λ r. length r ≤ 93) (λ m. readout secs k (asked false (offered m))) (keep asks ms) (every_all (λ m. readout_short secs k (asked false (offered m))) (keep asks ms))),
          length-map (keep asks ms) (λ m. readout secs k (asked false (offered m))),
          length-keep asks ms,
        )))

    pub read-rest : (p : List ℕ) (ms : List PlainMeter) → length ms ≤ capacity → read k p (at_rest_value b o ms) ≡ (entry_of p (joined (readouts ms)), at_rest_value b o (map read_m ms))
    unfolding read
    read-rest p ms few =
        ap (λ (r : List ℕ × Plain). (entry_of p r.0, r.1)) (ask-rest k b o ms reading (reading_sent ms few))
        ∙ ap (λ rs. (entry_of p (joined rs), at_rest_value b o (map read_m ms))) (reading-replies ms)
