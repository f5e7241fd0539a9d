-- What one whole telegram, sent to a segment at rest, does; and that no telegram changes an id.
use mathlib.Core.Path.{◌≡◌, refl, sym, ap, ◌∙◌, subst}
use mathlib.Core.Bool.{true, false, not}
use mathlib.Core.List.{List, [], ◌∷◌, ◌++◌, map, map-map, append-nil, nil≢cons}
use Prim.Native.Nat.{ℕ, zero, suc, ◌≤◌, ◌<◌}
use native.Mathlib.Omega.{arith}
use lib.Ieee.{Float}
use lib.Dec.{ltb}
use borrow.Author.Tests.{le-ltb, ltb-false}
use lib.ListN.{length, drop, length-drop}
use lib.Seq.{drop-length}
use Rattle.laws.specs.Words.{Bytes}
use Rattle.laws.proofs.Lists.{if_all, if_with, map_same, every_all}
use Rattle.frame.specs.Frame.{Telegram, ack, short, long, Why, Parsed, complete, incomplete, invalid, parse, encode}
use Rattle.frame.proofs.RoundTrip.{parse-encode, parse_back}
use Rattle.meter.specs.PlainMeter.{PlainMeter}
use Rattle.time_clock.specs.declared.Clock.{Clock}
use Rattle.time_clock.specs.Fields.{good_clock_value}
use Rattle.meter_step.specs.Hear.{Heard, hear}
use Rattle.meter_step.proofs.HearLaws.{hear_digits}
use Rattle.time_seconds.specs.Seconds.{elapsed_of_value}
use Rattle.segment.specs.Plain.{Plain, with_input}
use Rattle.segment.specs.Calls.{Done, accepted, refused}
use Rattle.segment_replies.specs.Replies.{joined}
use Rattle.segment_telegram.specs.Handled.{replies, to_broadcast_value, heard_by, handled}
use Rattle.segment_send.specs.Steps.{steps, handled_all}
use Rattle.segment_send.specs.Send.{fits_queue, send}

-- ---- one telegram

abbrev pub at_rest_value : ℕ → Float → List PlainMeter → Plain
at_rest_value b o ms = record { baud = b; origin = o; input = []; queue = []; meters = ms }

steps_idle : (n : ℕ) (k : Clock) (s : Plain) → s.input ≡ [] → steps n k s ≡ s
unfolding steps parse
steps_idle zero k s h = refl
steps_idle (suc n) k s h = rw (ap parse h, steps)

steps_one : (n : ℕ) (k : Clock) (s : Plain) (t : Telegram) (used : ℕ) → parse s.input ≡ complete t used → drop used s.input ≡ [] → steps (suc n) k s ≡ handled t k [] s
unfolding steps handled
steps_one n k s t used e d = rw (e, steps) (ap (λ r. steps n k (handled t k r s)) d ∙ steps_idle n k (handled t k [] s) refl)

-- an encoded telegram has a byte
encode-some : (t : Telegram) → (n : ℕ) × (length (encode t) ≡ suc n)
unfolding encode
encode-some ack = (_, refl)
encode-some (short c a) = (_, refl)
encode-some (long c a ci d) = (_, refl)

pub steps_encoded : (k : Clock) (s : Plain) (t : Telegram) → s.input ≡ encode t → steps (length s.input) k s ≡ handled t k [] s
steps_encoded k s t e =
    let n = encode-some t in
    ap (λ l. steps l k s) (ap length e ∙ n.1)
    ∙ steps_one n.0 k s t (length (encode t)) (ap parse e ∙ subst (λ bs. parse bs ≡ complete t (length (encode t))) (append-nil (encode t)) (parse-encode t []))
    (ap (drop (length (encode t))) e ∙ drop-length (encode t))

-- a telegram that is sent to a segment at rest
module _ (k : Clock) (b : ℕ) (o : Float) (ms : List PlainMeter) (t : Telegram) where
  abbrev pub sent_to : List Heard
  sent_to = map (hear b t (elapsed_of_value k.now o) k) ms

  abbrev pub after_sent : Plain
  after_sent = record { baud = b; origin = o; input = []; queue = joined (replies sent_to); meters = map (λ h. h.meter) sent_to }

  handled-rest : to_broadcast_value t ≡ false → handled t k [] (with_input (encode t) (at_rest_value b o ms)) ≡ after_sent
  unfolding handled heard_by
  handled-rest f = rw f

  pub send-rest : good_clock_value k ≡ true → length (encode t) ≤ 1024 → to_broadcast_value t ≡ false → length (joined (replies sent_to)) ≤ 4096 → send (encode t) k (at_rest_value b o ms) ≡ accepted after_sent
  unfolding send handled_all
  send-rest g l f q =
      rw (le-ltb 1024 (length (encode t)) l, g)
      (ap (fits_queue (at_rest_value b o ms)) (steps_encoded k (with_input (encode t) (at_rest_value b o ms)) t refl ∙ handled-rest f) ∙ rw (le-ltb 4096 (length (joined (replies sent_to))) q))

-- ---- the bound on the telegrams is free, once it is large enough

pub used_some : (bs : List ℕ) (t : Telegram) (n : ℕ) → parse bs ≡ complete t n → 0 < n
unfolding encode
used_some bs t zero e = absurd (nil≢cons ((parse_back bs t zero e).0 ∙ (split t).1))
  where
    split : (t : Telegram) → (r : ℕ × List ℕ) × (encode t ≡ r.0 ∷ r.1)
    split ack = ((_, _), refl)
    split (short c a) = ((_, _), refl)
    split (long c a ci d) = ((_, _), refl)
used_some bs t (suc n) e = omega arith

none_left : (bs : List ℕ) → length bs ≤ 0 → bs ≡ []
none_left [] h = refl
none_left (b ∷ bs) h = absurd (omega arith)

steps_enough : (n m : ℕ) (k : Clock) (s : Plain) → length s.input ≤ n → length s.input ≤ m → steps n k s ≡ steps m k s
unfolding steps handled
steps_enough zero zero k s h l = refl
steps_enough zero (suc m) k s h l = sym (steps_idle (suc m) k s (none_left s.input h))
steps_enough (suc n) zero k s h l = steps_idle (suc n) k s (none_left s.input l)
steps_enough (suc n) (suc m) k s h l = go (parse s.input) refl (steps_enough n m k)
  where
    go : (r : Parsed) → parse s.input ≡ r → ((u : Plain) → length u.input ≤ n → length u.input ≤ m → steps n k u ≡ steps m k u) → steps (suc n) k s ≡ steps (suc m) k s
    go (complete t used) e ih =
        let u = used_some s.input t used e in
        let d = length-drop used s.input in
        rw (e, steps) (ih (handled t k (drop used s.input) s) (omega arith) (omega arith))
    go (incomplete m) e ih = rw (e, steps)
    go (invalid why) e ih = rw (e, steps)

-- so the input is handled telegram by telegram

pub handled_all_complete : (k : Clock) (s : Plain) (t : Telegram) (used : ℕ) → parse s.input ≡ complete t used → handled_all k s ≡ handled_all k (handled t k (drop used s.input) s)
unfolding handled_all steps handled
handled_all_complete k s t used e = go (length s.input) refl
  where
    go : (n : ℕ) → length s.input ≡ n → steps n k s ≡ steps (length (drop used s.input)) k (handled t k (drop used s.input) s)
    go zero h = let u = used_some s.input t used e in let l = (parse_back s.input t used e).1 in absurd (omega arith)
    go (suc n) h =
        let u = used_some s.input t used e in
        let d = length-drop used s.input in
        rw (e, steps) (steps_enough n (length (drop used s.input)) k (handled t k (drop used s.input) s) (omega arith) (omega arith))

pub handled_all_incomplete : (k : Clock) (s : Plain) {m : ℕ} → parse s.input ≡ incomplete m → handled_all k s ≡ s
unfolding handled_all steps
handled_all_incomplete k s {m} e = go (length s.input)
  where
    go : (n : ℕ) → steps n k s ≡ s
    go zero = refl
    go (suc n) = rw (e, steps)

pub handled_all_invalid : (k : Clock) (s : Plain) (why : Why) → parse s.input ≡ invalid why → handled_all k s ≡ with_input [] s
unfolding handled_all steps parse
handled_all_invalid k s why e = go s.input refl
  where
    go : (bs : List ℕ) → s.input ≡ bs → steps (length bs) k s ≡ with_input [] s
    go [] h = let z : ◌≡◌ {A = ℕ} 0 1 = cc (e, ap parse h) in absurd (omega arith)
    go (b ∷ bs) h = rw (e, steps)

-- ---- no telegram changes an id

abbrev pub ids : Plain → List (List ℕ)
ids s = map (λ m. m.digits) s.meters

handled_ids : (t : Telegram) (k : Clock) (rest : List ℕ) (s : Plain) → ids (handled t k rest s) ≡ ids s
unfolding handled heard_by
handled_ids t k rest s =
    let f = hear s.baud t (elapsed_of_value k.now s.origin) k in
    ap (map (λ m. m.digits)) (map-map (λ h. h.meter) f s.meters)
    ∙ map-map (λ m. m.digits) (λ m. (f m).meter) s.meters
    ∙ map_same (λ m. (f m).meter.digits) (λ m. m.digits) s.meters (every_all (λ m. hear_digits s.baud t (elapsed_of_value k.now s.origin) k m) s.meters)

-- what every telegram keeps, and the loss of the input, the steps keep
pub steps_keeps : (P : Plain → Type 0) → ((t : Telegram) (k : Clock) (rest : List ℕ) (s : Plain) → P s → P (handled t k rest s)) → ((s : Plain) → P s → P (with_input [] s))
    → (n : ℕ) (k : Clock) (s : Plain) → P s → P (steps n k s)
unfolding steps
steps_keeps P f g zero k s p = p
steps_keeps P f g (suc n) k s p = go (parse s.input) refl (steps_keeps P f g n k)
  where
    go : (r : Parsed) → parse s.input ≡ r → ((u : Plain) → P u → P (steps n k u)) → P (steps (suc n) k s)
    go (complete t used) e ih = rw (e, steps) (ih (handled t k (drop used s.input) s) (f t k (drop used s.input) s p))
    go (incomplete m) e ih = rw (e, steps) p
    go (invalid why) e ih = rw (e, steps) (g s p)

-- what holds of a segment, and of one that took its steps with a queue that fits, holds after a send
pub send_all : (P : Plain → Type 0) (piece : List ℕ) (k : Clock) (s : Plain) → P s
    → (length (handled_all k (with_input (s.input ++ piece) s)).queue ≤ 4096 → P (handled_all k (with_input (s.input ++ piece) s))) → P (send piece k s).segment
unfolding send
send_all P piece k s p q =
    let t = handled_all k (with_input (s.input ++ piece) s) in
    if_all (λ (d : Done). P d.segment) (ltb 1024 (length piece)) _ _ p
    (if_all (λ (d : Done). P d.segment) (not (good_clock_value k)) _ _ p
    (if_with (λ (d : Done). P d.segment) (ltb 4096 (length t.queue)) (refused 15 s) (accepted t) (λ e. p) (λ e. q (ltb-false 4096 (length t.queue) e))))

-- what every telegram keeps, whatever the input, a send keeps
pub send_keeps : (P : Plain → Type 0) → ((t : Telegram) (k : Clock) (rest : List ℕ) (s : Plain) → P s → P (handled t k rest s)) → ((bs : List ℕ) (s : Plain) → P s → P (with_input bs s))
    → (piece : List ℕ) (k : Clock) (s : Plain) → P s → P (send piece k s).segment
unfolding handled_all
send_keeps P f g piece k s p =
    send_all P piece k s p (λ h. steps_keeps P f (g []) (length (s.input ++ piece)) k (with_input (s.input ++ piece) s) (g (s.input ++ piece) s p))

pub send_ids : (piece : List ℕ) (k : Clock) (s : Plain) → ids (send piece k s).segment ≡ ids s
send_ids piece k s = send_keeps (λ u. ids u ≡ ids s) (λ t k rest u h. handled_ids t k rest u ∙ h) (λ bs u h. h) piece k s refl

-- ---- what waits is incomplete

pub bytes_drop : (n : ℕ) (bs : List ℕ) → Bytes bs → Bytes (drop n bs)
bytes_drop zero bs h = h
bytes_drop (suc n) [] h = tt
bytes_drop (suc n) (b ∷ bs) h = bytes_drop n bs h.1
