-- The entry that a lone meter's readout gives.
use Rattle.std.specs.Prelude.{if◌then◌else◌}
use mathlib.Core.Path.{◌≡◌, refl, ap, ap₂, ◌∙◌, subst}
use mathlib.Core.Bool.{Bool, true, false}
use mathlib.Core.List.{List, [], ◌∷◌, ◌++◌, append-nil}
use Prim.Native.Nat.{ℕ, suc, ◌+◌, ◌<◌, min}
use native.Mathlib.Omega.{arith}
use lib.Dec.{eqb, leb, eqb-suc-zero}
use lib.Ieee.{Float}
use lib.ListN.{length, length-append}
use borrow.Author.Tests.{eq-eqb, le-leb, lt-ltb, le-ltb, leb-true, leb-false}
use Rattle.laws.specs.Words.{Every}
use Rattle.frame.specs.Frame.{Telegram, long, Why, checksum, complete, invalid, parse, encode}
use Rattle.frame.specs.Theorems.{Incomplete}
use Rattle.frame.proofs.RoundTrip.{parse-encode}
use Rattle.meter_identity.specs.Identity.{id_bytes_value, nibbles}
use Rattle.meter_identity.proofs.IdentityLaws.{nibbles_id}
use Rattle.meter.specs.PlainMeter.{PlainMeter}
use Rattle.time_clock.specs.declared.Clock.{Clock}
use Rattle.meter.specs.declared.Fault.{Fault}
use Rattle.meter.specs.declared.Fault.TheVariants.{None, Checksum, Truncated, Busy, WrongAddress, Flaky, TooMany}
use Rattle.meter_request.specs.Asking.{asked, readouts_now_value}
use Rattle.meter_reply.specs.Response.{user_data_value, error, response, damaged, readout}
use Rattle.meter_reply.proofs.ReadoutLaws.{Shape, user_data_shape, flipped_fails, cut_waits, length_id}
use Rattle.search_walk.specs.Walk.{one, mute, good, id_of, entry_of}
use Rattle.search_walk.specs.Entries.{lone_entry, begins, fails_by}
use Rattle.search_walk.proofs.Model.{Prefix}
use Rattle.search_walk.proofs.Seen.{IdDigits, seen_of}
use Rattle.search_walk.proofs.MaskLaws.{alike-mask, digits_small}

-- ---- by what is parsed

parse-alone : (t : Telegram) → parse (encode t) ≡ complete t (length (encode t))
parse-alone t = subst (λ bs. parse bs ≡ complete t (length (encode t))) (append-nil (encode t)) (parse-encode t [])

entry_whole : (p : List ℕ) (t : Telegram) → entry_of p (encode t) ≡ (if good p t then one (id_of t) else mute p)
unfolding entry_of
entry_whole p t = rw (parse-alone t, entry_of, eq-eqb (length (encode t)) (length (encode t)) refl)

entry_waits : (p bs : List ℕ) → Incomplete bs → entry_of p bs ≡ mute p
unfolding entry_of
entry_waits p bs w = let e = w.1 in rw (e, entry_of)

entry_fails : (p bs : List ℕ) (w : Why) → parse bs ≡ invalid w → entry_of p bs ≡ mute p
unfolding entry_of
entry_fails p bs w e = rw (e, entry_of)

-- ---- user data, whole, is good

-- eight digits of any kind
abbrev pub Nibbles : List ℕ → Type 0
Nibbles ds = (length ds ≡ 8) × Every (λ d. d < 16) ds

module _ (p : List ℕ) (w : Prefix p) (ds : List ℕ) (id : Nibbles ds) (has : begins p ds ≡ true) where
  shape_nibbles : (rest : List ℕ) → nibbles (id_bytes_value ds ++ rest) ≡ ds
  shape_nibbles rest = nibbles_id ds rest id.0 id.1

  shape_good : (t : Telegram) → Shape ds t → good p t ≡ true
  unfolding good
  shape_good t sh =
      rw (
        sh.is,
        sh.kind,
        le-leb 4 (length (id_bytes_value ds ++ sh.rest)) (omega (arith, length-append (id_bytes_value ds) sh.rest, length_id ds)),
        shape_nibbles sh.rest,
      ) (alike-mask p ds w id.0 ∙ has)

  shape_id : (t : Telegram) → Shape ds t → id_of t ≡ ds
  unfolding id_of
  shape_id t sh = rw sh.is (shape_nibbles sh.rest)

  entry_one : (t : Telegram) → Shape ds t → entry_of p (encode t) ≡ one ds
  entry_one t sh = entry_whole p t ∙ rw (shape_good t sh, shape_id t sh)

-- the CI 70 telegrams are not
entry_refused : (p : List ℕ) (a code : ℕ) → entry_of p (encode (long 0x08 a 0x70 (code ∷ []))) ≡ mute p
unfolding good
entry_refused p a code = entry_whole p (long 0x08 a 0x70 (code ∷ []))

-- ---- by the fault

module _ (p : List ℕ) (w : Prefix p) (e : Float) (k : Clock) (n : PlainMeter) (id : Nibbles n.digits) (has : begins p n.digits ≡ true) where
  resp_data : error n.fault n.readouts ≡ 0 → response e k n ≡ user_data_value n.model e k n
  unfolding response
  resp_data h =
      ap (λ c. if eqb c 0 then user_data_value n.model e k n else long 0x08 n.primary 0x70 (c ∷ [])) h

  resp_error : (c : ℕ) → error n.fault n.readouts ≡ suc c → response e k n ≡ long 0x08 n.primary 0x70 (suc c ∷ [])
  unfolding response
  resp_error c h =
      ap (λ c. if eqb c 0 then user_data_value n.model e k n else long 0x08 n.primary 0x70 (c ∷ [])) h
      ∙ ap (λ b. if b then user_data_value n.model e k n else long 0x08 n.primary 0x70 (suc c ∷ [])) (eqb-suc-zero c)

  readout-is : (f : Fault) → n.fault ≡ f → readout e k n ≡ damaged f (encode (response e k n))
  unfolding readout
  readout-is f h = ap (λ g. damaged g (encode (response e k n))) h

  data_one : readout e k n ≡ encode (response e k n) → error n.fault n.readouts ≡ 0 → entry_of p (readout e k n) ≡ one n.digits
  data_one r h = ap (entry_of p) (r ∙ ap encode (resp_data h)) ∙ entry_one p w n.digits id has (user_data_value n.model e k n) (user_data_shape e k n n.model)

  error_mute : (c : ℕ) → readout e k n ≡ encode (response e k n) → error n.fault n.readouts ≡ suc c → entry_of p (readout e k n) ≡ mute p
  error_mute c r h = ap (entry_of p) (r ∙ ap encode (resp_error c h)) ∙ entry_refused p n.primary (suc c)

  by_fault : (f : Fault) (before : ℕ) → n.fault ≡ f → n.readouts ≡ readouts_now_value f before → entry_of p (readout e k n) ≡ (if fails_by f before then mute p else one n.digits)
  unfolding damaged
  by_fault None r h q = data_one (readout-is None h) (ap (λ f. error f n.readouts) h)
  by_fault Checksum r h q =
      let sh = user_data_shape e k n n.model in
      ap (entry_of p) (readout-is Checksum h ∙ ap (λ t. damaged Checksum (encode t)) (resp_data (ap (λ f. error f n.readouts) h) ∙ sh.is))
      ∙ entry_fails p _ checksum (flipped_fails 0x08 sh.address sh.ci (id_bytes_value n.digits ++ sh.rest))
  by_fault Truncated r h q =
      let sh = user_data_shape e k n n.model in
      ap (entry_of p) (readout-is Truncated h ∙ ap (λ t. damaged Truncated (encode t)) (resp_data (ap (λ f. error f n.readouts) h) ∙ sh.is))
      ∙ entry_waits p _ (cut_waits 0x08 sh.address sh.ci (id_bytes_value n.digits ++ sh.rest))
  by_fault Busy r h q = error_mute 7 (readout-is Busy h) (ap (λ f. error f n.readouts) h)
  by_fault WrongAddress r h q = data_one (readout-is WrongAddress h) (ap (λ f. error f n.readouts) h)
  by_fault Flaky r h q = data_one (readout-is Flaky h) (ap (λ f. error f n.readouts) h)
  by_fault TooMany r h q = go (leb 2 r) refl
    where
      go : (b : Bool) → leb 2 r ≡ b → entry_of p (readout e k n) ≡ (if b then mute p else one n.digits)
      go true l = error_mute 8 (readout-is TooMany h) (ap₂ error h q ∙ rw (lt-ltb 2 (min 3 (r + 1)) (omega (arith, leb-true 2 r l))))
      go false l = data_one (readout-is TooMany h) (ap₂ error h q ∙ rw (le-ltb 2 (min 3 (r + 1)) (omega (arith, leb-false 2 r l))))

-- whatever the digits of its id
pub readout-nibbles : (p : List ℕ) → Prefix p → (e : Float) (k : Clock) (m : PlainMeter) → Nibbles m.digits → begins p m.digits ≡ true
    → entry_of p (readout e k (asked false m)) ≡ (if fails_by m.fault m.readouts then mute p else one m.digits)
unfolding asked
readout-nibbles p w e k m id has = by_fault p w e k (asked false m) id has m.fault m.readouts refl refl

pub readout_entry : (p : List ℕ) → Prefix p → (e : Float) (k : Clock) (m : PlainMeter) → IdDigits m.digits → begins p m.digits ≡ true
    → entry_of p (readout e k (asked false m)) ≡ lone_entry p (seen_of m)
readout_entry p w e k m id has = readout-nibbles p w e k m (id.0, digits_small m.digits id.1) has
