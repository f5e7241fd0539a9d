-- What a reading does to a mark is what a request does to the meter that the mark stands for.
use Rattle.std.specs.Prelude.{if◌then◌else◌}
use mathlib.Core.Path.{◌≡◌, refl, sym, ap, ap₂, ◌∙◌}
use mathlib.Core.Bool.{Bool, true, false, ◌&&◌, ◌||◌, not, and-true, and-false}
use Prim.Native.Nat.{ℕ, zero, suc, ◌+◌, ◌*◌, ◌/◌, ◌%◌, ◌≤◌, ◌<◌, min}
use native.Mathlib.Omega.{arith}
use lib.Dec.{eqb, ltb}
use lib.Ieee.{Float}
use borrow.Author.Tests.{ltb-true, ltb-false}
use Rattle.laws.specs.Words.{bit_if}
use Rattle.meter.specs.PlainMeter.{PlainMeter}
use Rattle.time_clock.specs.declared.Clock.{Clock}
use Rattle.meter.specs.declared.Fault.{Fault}
use Rattle.meter.specs.declared.Fault.TheVariants.{None, Checksum, Truncated, Busy, WrongAddress, Flaky, TooMany}
use Rattle.meter.specs.Meter.{flaky, hears, offered}
use Rattle.meter_request.specs.Asking.{asked, readouts_now_value}
use Rattle.meter_step.specs.Hear.{Heard, request}
use Rattle.search_packed.specs.ProgramMarks.{yes_of, hears_of_value, readouts_in, read_mark_value}
use Rattle.search.specs.ProgramPacking.{on, stand, as_marked}
use Rattle.search.proofs.BitLaws.{turned, bit_on, bit_is, bit_small, bit_of}
use Rattle.search.proofs.MarkLaws.{too_many_value, Bits, bits_kept, Silent, put_b, yes_bit, hears_bit}

-- the readouts that a mark counts
counted : (x n : ℕ) → x ≤ 1 → (f : Fault) → on x ≡ too_many_value f → n < 256
    → (if eqb x 0 then n else (if ltb n 3 then n + 1 else 3)) % 256 ≡ readouts_now_value f n
counted zero n h None e l = omega arith
counted zero n h Checksum e l = omega arith
counted zero n h Truncated e l = omega arith
counted zero n h Busy e l = omega arith
counted zero n h WrongAddress e l = omega arith
counted zero n h Flaky e l = omega arith
counted zero n h TooMany e l = let z : ◌≡◌ {A = ℕ} 0 1 = cc in absurd (omega arith)
counted (suc zero) n h None e l = let z : ◌≡◌ {A = ℕ} 0 1 = cc in absurd (omega arith)
counted (suc zero) n h Checksum e l = let z : ◌≡◌ {A = ℕ} 0 1 = cc in absurd (omega arith)
counted (suc zero) n h Truncated e l = let z : ◌≡◌ {A = ℕ} 0 1 = cc in absurd (omega arith)
counted (suc zero) n h Busy e l = let z : ◌≡◌ {A = ℕ} 0 1 = cc in absurd (omega arith)
counted (suc zero) n h WrongAddress e l = let z : ◌≡◌ {A = ℕ} 0 1 = cc in absurd (omega arith)
counted (suc zero) n h Flaky e l = let z : ◌≡◌ {A = ℕ} 0 1 = cc in absurd (omega arith)
counted (suc zero) n h TooMany e l = go (ltb n 3) refl
  where
    go : (b : Bool) → ltb n 3 ≡ b → (if b then n + 1 else 3) % 256 ≡ min 3 (n + 1)
    go true q = omega (arith, ltb-true n 3 q)
    go false q = omega (arith, ltb-false n 3 q)
counted (suc (suc x)) n h f e l = absurd (omega arith)

if_meter : (b : Bool) (p q : Heard) → (if b then p else q).meter ≡ (if b then p.meter else q.meter)
if_meter true p q = refl
if_meter false p q = refl

-- the request, its test handed in
abbrev request_b : Bool → PlainMeter → PlainMeter
request_b f n = if (if f then n.hears_next else true) then asked false (put_b f n) else put_b f n

request-is : (e : Float) (k : Clock) (n : PlainMeter) → (request false e k n).meter ≡ request_b (flaky n.fault) n
unfolding request hears offered
request-is e k n = if_meter (if flaky n.fault then n.hears_next else true) _ _

module _ (m : PlainMeter) where
  stand-request : (f he : Bool) (a r : ℕ)
      → request_b f (stand m true true he false a r)
      ≡ (if not f || he then stand m true true (turned he f) true ((a + 1) % 256) (readouts_now_value m.fault r) else stand m true true (turned he f) false a r)
  unfolding asked
  stand-request true true a r = refl
  stand-request true false a r = refl
  stand-request false true a r = refl
  stand-request false false a r = refl

-- a mark that a mask has just selected
pub record Fresh (m : PlainMeter) (s : ℕ) : Type 0 where
  pub bits : Bits m.fault s
  pub selected : s % 2 ≡ 1
  pub fresh : s / 2 % 2 ≡ 1
  pub clear : s / 8 % 2 ≡ 0

-- ---- the numbers in a read mark

far : (u s : ℕ) → u / 8 ≡ s / 8 → (u / 8 % 2 ≡ s / 8 % 2) × (u / 65536 % 256 ≡ s / 65536 % 256) × (u / 256 % 256 ≡ s / 256 % 256) × (u / 16 % 16 ≡ s / 16 % 16)
far u s e =
    let x : u / 16 ≡ s / 16 = omega arith in
    let y : u / 256 ≡ s / 256 = omega arith in
    let z : u / 65536 ≡ s / 65536 = omega arith in
    (omega arith, omega arith, omega arith, omega arith)

near : (w h x u : ℕ) → w < 4 → h ≤ 1 → u ≡ x * 8 + h * 4 + w → (u % 2 ≡ w % 2) × (u / 2 % 2 ≡ w / 2) × (u / 4 % 2 ≡ h) × (u / 8 ≡ x)
near w h x u pw ph e = (omega arith, omega arith, omega arith, omega arith)

wide : (v c a u : ℕ) → v < 16 → c < 256 → a < 256 → u / 8 ≡ v * 2 + 1 + c * 32 + a * 8192
    → (u / 8 % 2 ≡ 1) × (u / 65536 % 256 ≡ a) × (u / 256 % 256 ≡ c) × (u / 16 % 16 ≡ v)
wide v c a u pv pc pa e =
    let x : u / 256 ≡ c + a * 256 = omega arith in
    let y : u / 65536 ≡ a = omega arith in
    let z : u / 16 ≡ v + c * 16 + a * 4096 = omega arith in
    (omega arith, omega arith, omega arith, omega arith)

low_bits : (s : ℕ) → (s % 4 % 2 ≡ s % 2) × (s % 4 / 2 ≡ s / 2 % 2) × (s % 4 < 4) × (s / 16 % 16 < 16)
low_bits s = (omega arith, omega arith, omega arith, omega arith)

pub record Parts (u y f h c a r v : ℕ) : Type 0 where
  pub selected : u % 2 ≡ y
  pub fresh : u / 2 % 2 ≡ f
  pub hears : u / 4 % 2 ≡ h
  pub clear : u / 8 % 2 ≡ c
  pub access : u / 65536 % 256 ≡ a
  pub readouts : u / 256 % 256 ≡ r
  pub kind : u / 16 % 16 ≡ v

read-parts : (s h c u : ℕ) → h ≤ 1 → c < 256 → u ≡ s / 16 % 16 * 16 + 8 + h * 4 + s % 4 + c * 256 + (s / 65536 % 256 + 1) % 256 * 65536
    → Parts u (s % 2) (s / 2 % 2) h 1 ((s / 65536 % 256 + 1) % 256) c (s / 16 % 16)
read-parts s h c u ph pc e =
    let l = low_bits s in
    let n = near (s % 4) h (s / 16 % 16 * 2 + 1 + c * 32 + (s / 65536 % 256 + 1) % 256 * 8192) u l.2 ph (omega arith) in
    let w = wide (s / 16 % 16) c ((s / 65536 % 256 + 1) % 256) u l.3 pc (omega arith) n.3 in
    record { selected = n.0 ∙ l.0; fresh = n.1 ∙ l.1; hears = n.2; clear = w.0; access = w.1; readouts = w.2; kind = w.3 }

missed_parts : (s h u : ℕ) → h ≤ 1 → u ≡ s / 8 * 8 + h * 4 + s % 4 → Parts u (s % 2) (s / 2 % 2) h (s / 8 % 2) (s / 65536 % 256) (s / 256 % 256) (s / 16 % 16)
missed_parts s h u ph e =
    let l = low_bits s in
    let n = near (s % 4) h (s / 8) u l.2 ph e in
    let w = far u s n.3 in
    record { selected = n.0 ∙ l.0; fresh = n.1 ∙ l.1; hears = n.2; clear = w.0; access = w.1; readouts = w.2; kind = w.3 }

parts-stand : (m : PlainMeter) (u y f h c a r v : ℕ) → Parts u y f h c a r v → as_marked m u ≡ stand m (on y) (on f) (on h) (on c) a r
unfolding as_marked
parts-stand m u y f h c a r v p = rw (p.selected, p.fresh, p.hears, p.clear, p.access, p.readouts)

-- ---- by whether the meter answers the reading

answers_mark : (s : ℕ) → yes_of s (s % 2) ≡ 1 → read_mark_value s ≡ s / 16 % 16 * 16 + 8 + hears_of_value s (s % 2) * 4 + s % 4 + readouts_in s % 256 * 256 + (s / 65536 % 256 + 1) % 256 * 65536
unfolding read_mark_value
answers_mark s e = rw e

missed_mark : (s : ℕ) → yes_of s (s % 2) ≡ 0 → read_mark_value s ≡ s / 8 * 8 + hears_of_value s (s % 2) * 4 + s % 4
unfolding read_mark_value
missed_mark s e = rw e

-- the bit to which a reading is put
pub offered-is : (s : ℕ) → s % 2 ≡ bit_if (on (s % 2))
offered-is s = bit_is (bit_of (s % 2) (omega arith))

module _ (s : ℕ) where
  hears_small : hears_of_value s (s % 2) ≤ 1
  hears_small = rw (offered-is s) (bit_small (hears_bit s (on (s % 2))))

  -- what it was before is kept, all but hearing, access number and readouts
  pub read_kept : (read_mark_value s % 2 ≡ s % 2) × (read_mark_value s / 16 % 16 ≡ s / 16 % 16) × (read_mark_value s / 4 % 2 ≡ hears_of_value s (s % 2))
  read_kept = go (yes_of s (s % 2)) (rw (offered-is s) (bit_small (yes_bit s (on (s % 2))))) refl
    where
      go : (y : ℕ) → y ≤ 1 → yes_of s (s % 2) ≡ y → (read_mark_value s % 2 ≡ s % 2) × (read_mark_value s / 16 % 16 ≡ s / 16 % 16) × (read_mark_value s / 4 % 2 ≡ hears_of_value s (s % 2))
      go zero h e = let p = missed_parts s (hears_of_value s (s % 2)) (read_mark_value s) hears_small (missed_mark s e) in (p.selected, p.kind, p.hears)
      go (suc zero) h e = let p = read-parts s (hears_of_value s (s % 2)) (readouts_in s % 256) (read_mark_value s) hears_small (omega arith) (answers_mark s e) in (p.selected, p.kind, p.hears)
      go (suc (suc y)) h e = absurd (omega arith)

pub bits_read : (f : Fault) (s : ℕ) → Bits f s → Bits f (read_mark_value s)
bits_read f s k = bits_kept f s (read_mark_value s) (read_kept s).1 k

pub silent_read : (s : ℕ) → Silent s → Silent (read_mark_value s)
silent_read s q =
    let e = read_kept s in
    let a : read_mark_value s / 16 % 2 ≡ s / 16 % 2 = two (read_mark_value s / 16) (s / 16) e.1 in
    let b : read_mark_value s / 32 % 2 ≡ s / 32 % 2 = half (read_mark_value s) s e.1 in
    record {
      even = ap on e.0 ∙ q.even;
      misses = ap on (e.2 ∙ ap (hears_of_value s) (offered-is s)) ∙ bit_on (hears_bit s (on (s % 2))) ∙ ap₂ (λ x y. turned x (y && on (s % 2))) q.misses q.flaky';
      steady = ap on a ∙ q.steady;
      flaky' = ap on b ∙ q.flaky';
    }
  where
    two : (x y : ℕ) → x % 16 ≡ y % 16 → x % 2 ≡ y % 2
    two x y e = omega arith

    half : (x y : ℕ) → x / 16 % 16 ≡ y / 16 % 16 → x / 32 % 2 ≡ y / 32 % 2
    half x y e =
        let a : x / 32 ≡ x / 16 / 2 = omega arith in
        let b : y / 32 ≡ y / 16 / 2 = omega arith in
        ap (λ n. n % 2) a ∙ quarter (x / 16) (y / 16) e ∙ ap (λ n. n % 2) (sym b)
      where
        quarter : (x y : ℕ) → x % 16 ≡ y % 16 → x / 2 % 2 ≡ y / 2 % 2
        quarter x y e =
            let a : x / 2 % 2 ≡ x % 16 / 2 % 2 = omega arith in
            let b : y / 2 % 2 ≡ y % 16 / 2 % 2 = omega arith in
            a ∙ ap (λ n. n / 2 % 2) e ∙ sym b

-- a meter that is not selected is left alone
pub even_read : (s : ℕ) → on (s % 2) ≡ false → read_mark_value s ≡ s
even_read s e =
    missed_mark s (ap (yes_of s) offered ∙ bit_is (yes_bit s false) ∙ ap bit_if (and-false (on (s / 16 % 2) || on (s / 4 % 2))))
    ∙ ap (λ h. s / 8 * 8 + h * 4 + s % 4) (ap (hears_of_value s) offered ∙ bit_is (hears_bit s false) ∙ ap (λ b. bit_if (turned (on (s / 4 % 2)) b)) (and-false (on (s / 32 % 2))) ∙ sym (bit_is (bit_of (s / 4 % 2) (omega arith))))
    ∙ omega arith
  where
    offered : s % 2 ≡ 0
    offered = offered-is s ∙ ap bit_if e

-- ---- the request of the meter that a mark stands for
module _ (m : PlainMeter) (s : ℕ) (q : Fresh m s) where
  hearing_is : on (hears_of_value s 1) ≡ turned (on (s / 4 % 2)) (flaky m.fault)
  hearing_is = bit_on (hears_bit s true) ∙ ap (λ f. turned (on (s / 4 % 2)) f) (and-true (on (s / 32 % 2)) ∙ q.bits.flaky')

  pub yes-is : on (yes_of s 1) ≡ (not (flaky m.fault) || on (s / 4 % 2))
  yes-is = bit_on (yes_bit s true) ∙ and-true (on (s / 16 % 2) || on (s / 4 % 2)) ∙ ap (λ f. f || on (s / 4 % 2)) q.bits.steady

  before : as_marked m s ≡ stand m true true (on (s / 4 % 2)) false (s / 65536 % 256) (s / 256 % 256)
  before = parts-stand m s 1 1 (s / 4 % 2) 0 (s / 65536 % 256) (s / 256 % 256) (s / 16 % 16)
      (record { selected = q.selected; fresh = q.fresh; hears = refl; clear = q.clear; access = refl; readouts = refl; kind = refl })

  abbrev read_to : Bool → PlainMeter
  read_to b =
      if b then stand m true true (turned (on (s / 4 % 2)) (flaky m.fault)) true ((s / 65536 % 256 + 1) % 256) (readouts_now_value m.fault (s / 256 % 256))
      else stand m true true (turned (on (s / 4 % 2)) (flaky m.fault)) false (s / 65536 % 256) (s / 256 % 256)

  afterwards : (y : ℕ) → y ≤ 1 → yes_of s 1 ≡ y → as_marked m (read_mark_value s) ≡ read_to (on y)
  unfolding readouts_in
  afterwards zero h e =
      parts-stand m (read_mark_value s) _ _ _ _ _ _ _ (missed_parts s (hears_of_value s 1) (read_mark_value s) (bit_small (hears_bit s true)) (missed_mark s (ap (yes_of s) q.selected ∙ e) ∙ ap (λ x. s / 8 * 8 + hears_of_value s x * 4 + s % 4) q.selected))
      ∙ rw (q.selected, q.fresh, q.clear, hearing_is)
  afterwards (suc zero) h e =
      parts-stand m (read_mark_value s) _ _ _ _ _ _ _ (read-parts s (hears_of_value s 1) (readouts_in s % 256) (read_mark_value s) (bit_small (hears_bit s true)) (omega arith)
      (answers_mark s (ap (yes_of s) q.selected ∙ e) ∙ ap (λ x. s / 16 % 16 * 16 + 8 + hears_of_value s x * 4 + s % 4 + readouts_in s % 256 * 256 + (s / 65536 % 256 + 1) % 256 * 65536) q.selected))
      ∙ rw (q.selected, hearing_is, counted (s / 128 % 2) (s / 256 % 256) (omega arith) m.fault q.bits.many (omega arith))
  afterwards (suc (suc y)) h e = absurd (omega arith)

  pub request-marked : (e : Float) (k : Clock) → (request false e k (as_marked m s)).meter ≡ as_marked m (read_mark_value s)
  request-marked e k =
      ap (λ n. (request false e k n).meter) before
      ∙ request-is e k (stand m true true (on (s / 4 % 2)) false (s / 65536 % 256) (s / 256 % 256))
      ∙ stand-request m (flaky m.fault) (on (s / 4 % 2)) (s / 65536 % 256) (s / 256 % 256)
      ∙ ap read_to (sym yes-is)
      ∙ sym (afterwards (yes_of s 1) (bit_small (yes_bit s true)) refl)
