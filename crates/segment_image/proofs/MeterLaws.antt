-- Meters one behind the other, and the loops that read and write them.
use mathlib.Core.Path.{◌≡◌, refl, sym, ap, ap₂, subst, ◌∙◌}
use mathlib.Core.List.{List, [], ◌∷◌, ◌++◌, map, map-append}
use Prim.Native.Nat.{ℕ, zero, suc, ◌+◌, ◌*◌, ◌≤◌, ◌<◌}
use native.Mathlib.Numerals.{add-one}
use native.Mathlib.Omega.{arith}
use lib.ListN.{length, take, drop, set, get_or, length-drop, length-append}
use lib.Seq.{paste, take-append-le, drop-drop, take-take, take_all, take-suc, take-suc-set, take-length, length-paste}
use Rattle.laws.specs.Words.{each}
use Rattle.std.proofs.lemmas.List.{drop-take}
use Rattle.laws.proofs.Rows.{Rows, rows_begin, rows_more, rows_map}
use Rattle.meter.specs.PlainMeter.{PlainMeter}
use Rattle.meter.specs.View.{plain_meter}
use Rattle.meter.specs.declared.Meter.{Meter}
use Rattle.segment_image.specs.MeterBytes.{decode_meter, encode_meter}
use Rattle.segment_image.proofs.MeterByteLaws.{meter_long}
use Rattle.segment_image.specs.Image.{block, meters}
use Rattle.segment_image.proofs.Blocks.{paste_before, paste-at}

next : (i : ℕ) → 25 + 25 * i ≡ 25 * suc i
next i = omega arith

pub meters_more : (i : ℕ) (bs : List ℕ) → meters (suc i) bs ≡ meters i bs ++ (decode_meter (block (25 * i) 25 bs) ∷ [])
unfolding meters
meters_more zero bs = refl
meters_more (suc i) bs =
    ap (λ (r : List PlainMeter). decode_meter (take 25 bs) ∷ r)
    (meters_more i (drop 25 bs)
    ∙ ap (λ (l : List ℕ). meters i (drop 25 bs) ++ (decode_meter (take 25 l) ∷ [])) (drop-drop (25 * i) 25 bs ∙ ap (λ (k : ℕ). drop k bs) (next i)))

-- the first meters lie in the first bytes
meters_same : (i : ℕ) (l k : List ℕ) → take (25 * i) l ≡ take (25 * i) k → 25 * i ≤ length l → 25 * i ≤ length k → meters i l ≡ meters i k
unfolding meters
meters_same zero l k e h m = refl
meters_same (suc i) l k e h m =
    let f : take (25 + 25 * i) l ≡ take (25 + 25 * i) k = ap (λ (n : ℕ). take n l) (next i) ∙ e ∙ sym (ap (λ (n : ℕ). take n k) (next i)) in
    ap₂ (λ (x : List ℕ) (r : List PlainMeter). decode_meter x ∷ r)
    (sym (take-take 25 (25 + 25 * i) l (omega arith)) ∙ ap (take 25) f ∙ take-take 25 (25 + 25 * i) k (omega arith))
    (meters_same i (drop 25 l) (drop 25 k) (sym (drop-take 25 (25 * i) l) ∙ ap (drop 25) f ∙ drop-take 25 (25 * i) k) (rw length-drop (omega arith))
    (rw length-drop (omega arith)))

-- the first i meters are read from bs into ms
pub record Got (bs : List ℕ) (i : ℕ) (ms : List Meter) : Type 0 where
  pub is : map plain_meter (take i ms) ≡ meters i bs

module _ {bs : List ℕ} where
  pub got_none : {ms : List Meter} → Got bs 0 ms
  got_none = record { is = unfold meters in refl }

  pub got_more : {i : ℕ} {ms : List Meter} (m : Meter) → Got bs i ms → i < length ms → plain_meter m ≡ decode_meter (block (25 * i) 25 bs) → Got bs (i + 1) (set ms i m)
  got_more {i} {ms} m g h e =
      record {
        is =
            rw (add-one, take-suc-set ms i m h, map-append plain_meter (take i ms) (m ∷ []), g.is)
            (ap (λ (x : PlainMeter). meters i bs ++ (x ∷ [])) e ∙ sym (meters_more i bs));
      }

  pub got_all : {i : ℕ} {ms : List Meter} (n : ℕ) → Got bs i ms → i ≡ n → map plain_meter (take n ms) ≡ meters n bs
  got_all {i} {ms} n g e = subst (λ (k : ℕ). map plain_meter (take k ms) ≡ meters k bs) e g.is

abbrev bytes : Meter → List ℕ
bytes m = encode_meter (plain_meter m)

bytes_long : (m : Meter) → length (bytes m) ≡ 25
bytes_long m = meter_long (plain_meter m)

-- the first i meters of ms are written into bs₀, which is then bs
pub record Put (ms : List Meter) (bs₀ : List ℕ) (i : ℕ) (bs : List ℕ) : Type 0 where
  pub written : Rows bytes 25 ms bs₀ i bs
  pub is : meters i bs ≡ map plain_meter (take i ms)

module _ {ms : List Meter} {bs₀ : List ℕ} where
  pub put-none : Put ms bs₀ 0 bs₀
  put-none = record { written = rows_begin bytes 25 bytes_long; is = unfold meters in refl }

  pub put_more : {i : ℕ} {bs : List ℕ} (b : List ℕ) (d : Meter) → Put ms bs₀ i bs → i < length ms → 25 * i + 25 ≤ length bs → b ≡ bytes (get_or ms i d) → decode_meter b ≡ plain_meter (get_or ms i d)
      → Put ms bs₀ (i + 1) (paste bs (25 * i) b 25)
  put_more {i} {bs} b d g h k v e =
      let w : length b ≡ 25 = ap length v ∙ bytes_long (get_or ms i d) in
      let l : length (paste bs (25 * i) b 25) ≡ length bs = length-paste bs (25 * i) b 25 k (omega arith) in
      record {
        written = rows_more bytes 25 bytes_long g.written b d h v;
        is =
            rw (
              add-one,
              meters_more i (paste bs (25 * i) b 25),
              meters_same i (paste bs (25 * i) b 25) bs (paste_before bs (25 * i) b 25 k (25 * i) (omega arith)) (omega arith) (omega arith),
              paste-at bs (25 * i) b 25 k (omega arith),
              take_all 25 b (omega arith),
              e,
              g.is,
              take-suc ms i d h,
            )
            (sym (map-append plain_meter (take i ms) (get_or ms i d ∷ [])));
      }

  pub put_all : {i : ℕ} {bs : List ℕ} → Put ms bs₀ i bs → i ≡ length ms
      → (bs ≡ each (map plain_meter ms) encode_meter ++ drop (25 * length ms) bs₀) × (meters (length ms) bs ≡ map plain_meter ms)
  put_all {i} {bs} g e =
      let said : ℕ → List Meter → Type 0 = λ k xs. (bs ≡ each (map plain_meter xs) encode_meter ++ drop (25 * k) bs₀) × (meters k bs ≡ map plain_meter xs) in
      subst (said (length ms)) (take-length ms)
      (subst (λ (k : ℕ). said k (take k ms)) e (g.written.is ∙ ap (λ (r : List ℕ). r ++ drop (25 * i) bs₀) (rows_map encode_meter plain_meter (take i ms)), g.is))

-- what lies behind the meters has no part in them
pub meters_front : (i : ℕ) (bs r : List ℕ) → 25 * i ≤ length bs → meters i (bs ++ r) ≡ meters i bs
meters_front i bs r h = meters_same i (bs ++ r) bs (take-append-le (25 * i) bs r h) (rw length-append (omega arith)) h
