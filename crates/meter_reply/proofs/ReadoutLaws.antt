-- What a readout is: how long, and what is read from it.
use Rattle.std.specs.Prelude.{if◌then◌else◌}
use Rattle.std.proofs.Common.{◌≡◌, ℕ, suc, ◌+◌, ◌-◌, ◌*◌, ◌/◌, ◌<◌, ◌≤◌, Bool, true, false, ◌||◌, eqb, leb, List, [], ◌∷◌, ◌++◌, length, take, refl, arith, length-append, length-set, length-take, leb-false, leb-true}
use lib.Bits.{bit_and, bit_xor, xor_add_and, and_step}
use lib.Ieee.{Float}
use lib.Seq.{set_at, get_or_at}
use Rattle.laws.specs.Words.{at}
use Rattle.laws.proofs.Lists.{if_all}
use Rattle.frame.specs.Frame.{Telegram, long, checksum, invalid, encode, sum, parse}
use Rattle.frame.specs.Theorems.{Incomplete}
use Rattle.frame.proofs.RoundTrip.{long_with, with_wrong, length_long, parse_long_waits}
use Rattle.numbers.specs.Values.{little, bcd}
use Rattle.meter_identity.specs.Identity.{id_bytes_value}
use Rattle.time_dates.specs.Dates.{type_g_value, type_f_value}
use Rattle.time_seconds.specs.Seconds.{whole, last32}
use Rattle.meter.specs.PlainMeter.{PlainMeter}
use Rattle.time_clock.specs.declared.Clock.{Clock}
use Rattle.meter.specs.declared.Fault.{Fault}
use Rattle.meter.specs.declared.Fault.TheVariants.{None, Checksum, Truncated, Busy, WrongAddress, Flaky, TooMany}
use Rattle.meter.specs.declared.Model.{Model}
use Rattle.meter.specs.declared.Model.TheVariants.{Heat, Electricity, Water, Fixed}
use Rattle.meter_reply.specs.Response.{address, user_data_value, error, response, damaged, readout}
use Rattle.meter_data.specs.UserData.{fixed_data_value, head, clock_f, heat_first_value, heat_second_value, electricity, water}

-- ---- user data: RSP_UD, CI 72 or 73, with the id in front

pub record Shape (ds : List ℕ) (t : Telegram) : Type 0 where
  pub address : ℕ
  pub ci : ℕ
  pub rest : List ℕ
  pub is : t ≡ long 0x08 address ci (id_bytes_value ds ++ rest)
  pub kind : (eqb ci 0x72 || eqb ci 0x73) ≡ true
  pub few : length rest ≤ 80

module _ (e : Float) (k : Clock) (m : PlainMeter) where
  pub user_data_shape : (o : Model) → Shape m.digits (user_data_value o e k m)
  unfolding user_data_value fixed_data_value head clock_f heat_first_value heat_second_value electricity water id_bytes_value little bcd type_g_value type_f_value
  user_data_shape Heat =
      record {
        address = address m.fault m.primary;
        ci = 0x72;
        rest = (little 2 m.manufacturer ++ (m.version ∷ m.medium ∷ m.access ∷ 0x00 ∷ 0x00 ∷ 0x00 ∷ []))
            ++ (if eqb m.part 0 then heat_first_value (whole last32 e) k m else heat_second_value);
        is = refl;
        kind = refl;
        few = if_all (λ (xs : List ℕ). suc (suc (suc (suc (suc (suc (suc (suc (length xs)))))))) ≤ 80) (eqb m.part 0) (heat_first_value (whole last32 e) k m) heat_second_value (omega arith) (omega arith);
      }
  user_data_shape Electricity = record { address = address m.fault m.primary; ci = 0x72; rest = _; is = refl; kind = refl; few = omega arith }
  user_data_shape Water = record { address = address m.fault m.primary; ci = 0x72; rest = _; is = refl; kind = refl; few = omega arith }
  user_data_shape Fixed = record { address = m.primary; ci = 0x73; rest = _; is = refl; kind = refl; few = omega arith }

-- ---- faults on the bytes

-- a flip by 5A changes a number
flip_other : (x : ℕ) → bit_xor x 0x5A ≡ x → ⊥
flip_other x h = go (bit_and (x / 2) 0x2D) (omega (arith, xor_add_and x 0x5A, and_step x 0x5A)) (leb (bit_and (x / 2) 0x2D) 22) refl
  where
    go : (b : ℕ) → b * 2 ≡ 45 → (t : Bool) → leb b 22 ≡ t → ⊥
    go b f true l = omega (arith, leb-true b 22 l)
    go b f false l = omega (arith, leb-false b 22 l)

module _ (c a ci : ℕ) (d : List ℕ) where
  flipped : damaged Checksum (encode (long c a ci d)) ≡ long_with c a ci d (bit_xor (sum (c ∷ a ∷ ci ∷ d)) 0x5A) []
  unfolding damaged encode
  flipped =
      rw (two, get_or_at (0x68 ∷ (length d + 3) ∷ (length d + 3) ∷ 0x68 ∷ c ∷ a ∷ ci ∷ d) (sum (c ∷ a ∷ ci ∷ d)) (0x16 ∷ []) 0 _ refl)
      (set_at (0x68 ∷ (length d + 3) ∷ (length d + 3) ∷ 0x68 ∷ c ∷ a ∷ ci ∷ d) (sum (c ∷ a ∷ ci ∷ d)) (0x16 ∷ []) _ _ refl)
    where
      two : length (encode (long c a ci d)) - 2 ≡ suc (suc (suc (suc (suc (suc (suc (length d)))))))
      two = omega (arith, length_long c a ci d)

  pub flipped_fails : parse (damaged Checksum (encode (long c a ci d))) ≡ invalid checksum
  flipped_fails = rw flipped (with_wrong c a ci d (bit_xor (sum (c ∷ a ∷ ci ∷ d)) 0x5A) [] (flip_other (sum (c ∷ a ∷ ci ∷ d))))

  pub cut_waits : Incomplete (damaged Truncated (encode (long c a ci d)))
  unfolding damaged encode parse
  cut_waits = go (length (encode (long c a ci d)) / 2 - 4) (omega (arith, length_long c a ci d)) (omega (arith, length_long c a ci d))
    where
      tail : List ℕ
      tail = c ∷ a ∷ ci ∷ (d ++ sum (c ∷ a ∷ ci ∷ d) ∷ 0x16 ∷ [])

      go : (n : ℕ) → length (encode (long c a ci d)) / 2 ≡ suc (suc (suc (suc n))) → n + 4 < length d + 9
          → Incomplete (take (length (encode (long c a ci d)) / 2) (encode (long c a ci d)))
      go n f h =
          rw f (_, parse_long_waits (0x68 ∷ (length d + 3) ∷ (length d + 3) ∷ 0x68 ∷ take n tail) (omega arith) refl refl (omega arith) (omega (arith, length-take n tail)))

-- ---- the length of a readout

pub length_id : (ds : List ℕ) → length (id_bytes_value ds) ≡ 4
unfolding id_bytes_value
length_id ds = refl

response_short : (e : Float) (k : Clock) (m : PlainMeter) → length (encode (response e k m)) ≤ 93
unfolding response
response_short e k m =
    if_all (λ (t : Telegram). length (encode t) ≤ 93) (eqb (error m.fault m.readouts) 0) _ _ by_shape
    (omega (arith, length_long 0x08 m.primary 0x70 (error m.fault m.readouts ∷ [])))
  where
    by_shape : length (encode (user_data_value m.model e k m)) ≤ 93
    by_shape =
        let sh = user_data_shape e k m m.model in
        rw sh.is (omega (arith, length_long 0x08 sh.address sh.ci (id_bytes_value m.digits ++ sh.rest), length-append (id_bytes_value m.digits) sh.rest, length_id m.digits, sh.few))

-- it has a sum and a stop byte
pub response_long : (e : Float) (k : Clock) (m : PlainMeter) → 2 ≤ length (encode (response e k m))
unfolding response
response_long e k m =
    if_all (λ (t : Telegram). 2 ≤ length (encode t)) (eqb (error m.fault m.readouts) 0) _ _ by_shape
    (omega (arith, length_long 0x08 m.primary 0x70 (error m.fault m.readouts ∷ [])))
  where
    by_shape : 2 ≤ length (encode (user_data_value m.model e k m))
    by_shape = let sh = user_data_shape e k m m.model in rw sh.is (omega (arith, length_long 0x08 sh.address sh.ci (id_bytes_value m.digits ++ sh.rest)))

damaged_short : (f : Fault) (bs : List ℕ) → length (damaged f bs) ≤ length bs
unfolding damaged
damaged_short None bs = omega arith
damaged_short Checksum bs = omega (arith, length-set bs (length bs - 2) (bit_xor (at bs (length bs - 2)) 0x5A))
damaged_short Truncated bs = omega (arith, length-take (length bs / 2) bs)
damaged_short Busy bs = omega arith
damaged_short WrongAddress bs = omega arith
damaged_short Flaky bs = omega arith
damaged_short TooMany bs = omega arith

pub readout_short : (e : Float) (k : Clock) (m : PlainMeter) → length (readout e k m) ≤ 93
unfolding readout
readout_short e k m = omega (arith, damaged_short m.fault (encode (response e k m)), response_short e k m)
