-- What a telegram keeps of a meter: whatever its single changes keep. So the id's digits, the manufacturer and the
-- like never change,
-- and the rate changes by a CI of B8 to BF alone, to one of BAUD_RATES.
use mathlib.Core.Path.{◌≡◌, refl}
use mathlib.Core.Bool.{Bool, true, false, ◌&&◌, ◌||◌, not}
use mathlib.Core.List.{List}
use Prim.Native.Nat.{ℕ, ◌-◌, ◌<◌}
use native.Mathlib.Omega.{arith}
use lib.Dec.{eqb, leb}
use lib.Ieee.{Float}
use lib.ListN.{length, get_or}
use borrow.Author.Tests.{leb-true}
use Rattle.meter.specs.declared.Model.{Model}
use Rattle.meter.specs.declared.Fault.{Fault}
use Rattle.laws.specs.Words.{at}
use Rattle.laws.proofs.Lists.{if_all, if_with, and_l, and_r}
use Rattle.frame.specs.Frame.{Telegram, ack, short, long, data_of}
use Rattle.meter.specs.PlainMeter.{PlainMeter}
use Rattle.time_clock.specs.declared.Clock.{Clock}
use Rattle.meter.specs.Meter.{rates, with_primary_value, with_baud_value, with_selected_value, with_hears_next, reset, flaky, hears, offered}
use Rattle.meter_request.specs.Asking.{asked}
use Rattle.meter_select.specs.Matching.{matches}
use Rattle.meter_step.specs.Hear.{Heard, is_nke_value, is_req_ud2_value, fcb_of_value, is_snd_ud_value, is_select_value, sets_primary_value, sets_baud_value, target, nke, request, select, commanded, listens, hear}

-- a telegram with a CI of B8 to BF and no data
abbrev pub sets_rate : Telegram → Bool
sets_rate ack = false
sets_rate (short c a) = false
sets_rate (long c a ci d) = sets_baud_value ci d

-- its rate is one of BAUD_RATES
rate_number : (ci : ℕ) (d : List ℕ) → sets_baud_value ci d ≡ true → ci - 0xB8 < length rates
unfolding rates
rate_number ci d s =
    let low = and_l (leb 0xB8 ci && leb ci 0xBF) (eqb (length d) 0) s in
    omega (arith, leb-true 0xB8 ci (and_l (leb 0xB8 ci) (leb ci 0xBF) low), leb-true ci 0xBF (and_r (leb 0xB8 ci) (leb ci 0xBF) low))

-- P is kept by each change that the telegram t can make
pub record Closed (t : Telegram) (P : PlainMeter → Type 0) : Type 0 where
  pub primary : (m : PlainMeter) → P m → P (with_primary_value (at (data_of t) 2) m)
  pub baud : (m : PlainMeter) (i : ℕ) → i < length rates → sets_rate t ≡ true → P m → P (with_baud_value (get_or rates i 0) m)
  pub selected : (m : PlainMeter) (s : Bool) → P m → P (with_selected_value s m)
  pub hearing : (m : PlainMeter) (h : Bool) → P m → P (with_hears_next h m)
  pub reset : (m : PlainMeter) → P m → P (reset m)
  pub asked : (m : PlainMeter) (fcb : Bool) → P m → P (asked fcb m)

module _ {t : Telegram} {P : PlainMeter → Type 0} (c : Closed t P) (m : PlainMeter) (h : P m) where
  pub offered_keeps : P (offered m)
  unfolding offered
  offered_keeps = if_all P (flaky m.fault) _ _ (c.hearing m _ h) h

  nke_keeps : (a : ℕ) → P (nke a m).meter
  unfolding nke
  nke_keeps a =
      if_all (λ (r : Heard). P r.meter) (hears m) _ _
      (if_all P (eqb a 0xFD || eqb a 0xFF) _ _ (c.selected _ false (c.reset _ offered_keeps)) (c.reset _ offered_keeps)) offered_keeps

  request_keeps : (fcb : Bool) (e : Float) (k : Clock) → P (request fcb e k m).meter
  unfolding request
  request_keeps fcb e k = if_all (λ (r : Heard). P r.meter) (hears m) _ _ (c.asked _ fcb offered_keeps) offered_keeps

  select_keeps : (d : List ℕ) → P (select d m).meter
  unfolding select
  select_keeps d =
      if_all (λ (r : Heard). P r.meter) (matches d m) _ _
      (if_all (λ (r : Heard). P r.meter) (hears m) _ _ (c.reset _ (c.selected _ true offered_keeps)) (c.selected _ false offered_keeps)) (c.selected m false h)

module _ {P : PlainMeter → Type 0} {co a ci : ℕ} {d : List ℕ} (c : Closed (long co a ci d) P) (m : PlainMeter) (h : P m) where
  commanded_keeps : P (commanded ci d m).meter
  unfolding commanded
  commanded_keeps =
      if_all (λ (r : Heard). P r.meter) (sets_primary_value ci d) _ _ (c.primary m h)
      (if_with (λ (r : Heard). P r.meter) (sets_baud_value ci d) _ _ (λ s. c.baud m (ci - 0xB8) (rate_number ci d s) s h)
      (λ s. if_all (λ (r : Heard). P r.meter) (eqb ci 0x50) _ _ (c.reset m h) h))

module _ {P : PlainMeter → Type 0} (m : PlainMeter) (h : P m) (e : Float) (k : Clock) where
  listens_keeps : (t : Telegram) → Closed t P → P (listens t e k m).meter
  unfolding listens
  listens_keeps ack c = h
  listens_keeps (short co a) c =
      if_all (λ (r : Heard). P r.meter) (is_nke_value co) _ _ (if_all (λ (r : Heard). P r.meter) (target a m) _ _ (nke_keeps c m h a) h)
      (if_all (λ (r : Heard). P r.meter) (is_req_ud2_value co) _ _ (if_all (λ (r : Heard). P r.meter) (target a m) _ _ (request_keeps c m h (fcb_of_value co) e k) h) h)
  listens_keeps (long co a ci d) c =
      if_all (λ (r : Heard). P r.meter) (not (is_snd_ud_value co)) _ _ h
      (if_all (λ (r : Heard). P r.meter) (is_select_value ci a) _ _ (select_keeps c m h d)
      (if_all (λ (r : Heard). P r.meter) (target a m) _ _ (commanded_keeps c m h) h))

  pub hear_keeps : (bus : ℕ) (t : Telegram) → Closed t P → P (hear bus t e k m).meter
  unfolding hear
  hear_keeps bus t c = if_all (λ (r : Heard). P r.meter) (eqb m.baud bus) _ _ (listens_keeps t c) h

-- ---- what never changes

-- what no telegram changes of a meter
pub record Fixed : Type 0 where
  pub digits : List ℕ
  pub manufacturer : ℕ
  pub version : ℕ
  pub medium : ℕ
  pub model : Model
  pub fault : Fault
  pub seed : ℕ

abbrev pub fixed : PlainMeter → Fixed
fixed m =
    record { digits = m.digits; manufacturer = m.manufacturer; version = m.version; medium = m.medium; model = m.model; fault = m.fault; seed = m.seed }

module _ (bus : ℕ) (t : Telegram) (e : Float) (k : Clock) (m : PlainMeter) where
  fixed_closed : Closed t (λ n. fixed n ≡ fixed m)
  unfolding asked
  fixed_closed = record { primary = λ n h. h; baud = λ n i l q h. h; selected = λ n s h. h; hearing = λ n b h. h; reset = λ n h. h; asked = λ n fcb h. h }

  pub hear_fixed : fixed (hear bus t e k m).meter ≡ fixed m
  hear_fixed = hear_keeps {P = λ n. fixed n ≡ fixed m} m refl e k bus t fixed_closed
