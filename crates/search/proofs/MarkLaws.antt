-- Marks and meters: what a mask does to a mark is what select does to the meter that the mark stands for.
use Rattle.std.specs.Prelude.{if◌then◌else◌}
use mathlib.Core.Path.{◌≡◌, refl, sym, ap, ap₂, ◌∙◌}
use mathlib.Core.Bool.{Bool, true, false, ◌&&◌, ◌||◌, not}
use mathlib.Core.List.{List}
use Prim.Native.Nat.{ℕ, ◌+◌, ◌-◌, ◌*◌, ◌/◌, ◌%◌, ◌≤◌}
use native.Mathlib.Omega.{arith}
use lib.Bits.{bit_and, bit_or}
use Rattle.laws.specs.Words.{bit_if}
use Rattle.meter.specs.PlainMeter.{PlainMeter}
use Rattle.meter.specs.declared.Fault.{Fault}
use Rattle.meter.specs.declared.Fault.TheVariants.{None, Checksum, Truncated, Busy, WrongAddress, Flaky, TooMany}
use Rattle.meter.specs.Meter.{with_selected_value, with_hears_next, reset, flaky, hears, offered}
use Rattle.meter_select.specs.Matching.{matches}
use Rattle.meter_step.specs.Hear.{Heard, quiet, answers, E5, select}
use Rattle.search_packed.specs.ProgramMarks.{yes_of, hears_of_value, marked}
use Rattle.search.specs.ProgramPacking.{on, stand, as_marked}
use Rattle.search.proofs.BitLaws.{Bit, bit_of, bit_if_lem, bit_on, bit_is, bit_small, bit_and_lem, bit_or_lem, turned, bit_xor_lem, bit_not}

-- ---- what a mask does to the bits of a mark

module _ (s : ℕ) (b : Bool) where
  abbrev pub heard : Bool
  heard = (on (s / 16 % 2) || on (s / 4 % 2)) && b

  pub yes_bit : Bit (yes_of s (bit_if b)) heard
  unfolding yes_of
  yes_bit = bit_and_lem (bit_or_lem (bit_of (s / 16 % 2) (omega arith)) (bit_of (s / 4 % 2) (omega arith))) (bit_if_lem b)

  pub hears_bit : Bit (hears_of_value s (bit_if b)) (turned (on (s / 4 % 2)) (on (s / 32 % 2) && b))
  unfolding hears_of_value
  hears_bit = bit_xor_lem (bit_of (s / 4 % 2) (omega arith)) (bit_and_lem (bit_of (s / 32 % 2) (omega arith)) (bit_if_lem b))

  fresh_bit : Bit (bit_or (s / 2 % 2) (yes_of s (bit_if b))) (on (s / 2 % 2) || heard)
  fresh_bit = bit_or_lem (bit_of (s / 2 % 2) (omega arith)) yes_bit

  clear_bit : Bit (bit_and (s / 8 % 2) (1 - yes_of s (bit_if b))) (on (s / 8 % 2) && not heard)
  clear_bit = bit_and_lem (bit_of (s / 8 % 2) (omega arith)) (bit_not yes_bit)

  abbrev t : ℕ
  t = marked s (bit_if b)

  marked_low : (y h f c : ℕ) → y ≤ 1 → h ≤ 1 → f ≤ 1 → c ≤ 1 → (u : ℕ) → u ≡ s / 16 * 16 + c % 2 * 8 + h * 4 + f % 2 * 2 + y
      → (u % 2 ≡ y) × (u / 2 % 2 ≡ f) × (u / 4 % 2 ≡ h) × (u / 8 % 2 ≡ c) × (u / 16 ≡ s / 16)
  marked_low y h f c py ph pf pc u e = (omega arith, omega arith, omega arith, omega arith, omega arith)

  marked_bits : (t % 2 ≡ yes_of s (bit_if b)) × (t / 2 % 2 ≡ bit_or (s / 2 % 2) (yes_of s (bit_if b))) × (t / 4 % 2 ≡ hears_of_value s (bit_if b))
      × (t / 8 % 2 ≡ bit_and (s / 8 % 2) (1 - yes_of s (bit_if b))) × (t / 16 ≡ s / 16)
  unfolding marked
  marked_bits = marked_low _ _ _ _ (bit_small yes_bit) (bit_small hears_bit) (bit_small fresh_bit) (bit_small clear_bit) _ refl

  pub marked-odd : t % 2 ≡ bit_if heard
  marked-odd = marked_bits.0 ∙ bit_is yes_bit

  pub marked_selected : on (t % 2) ≡ heard
  marked_selected = ap on marked_bits.0 ∙ bit_on yes_bit

  pub marked-fresh : on (t / 2 % 2) ≡ (on (s / 2 % 2) || heard)
  marked-fresh = ap on marked_bits.1 ∙ bit_on fresh_bit

  pub marked-hears : on (t / 4 % 2) ≡ turned (on (s / 4 % 2)) (on (s / 32 % 2) && b)
  marked-hears = ap on marked_bits.2 ∙ bit_on hears_bit

  pub marked-clear : on (t / 8 % 2) ≡ (on (s / 8 % 2) && not heard)
  marked-clear = ap on marked_bits.3 ∙ bit_on clear_bit

  pub marked_kind : t / 16 ≡ s / 16
  marked_kind = marked_bits.4

  pub marked_access : t / 65536 % 256 ≡ s / 65536 % 256
  marked_access = let e = marked_bits.4 in omega arith

  pub marked_readouts : t / 256 % 256 ≡ s / 256 % 256
  marked_readouts = let e = marked_bits.4 in omega arith

-- ---- select, with its two tests handed in

abbrev pub put_b : Bool → PlainMeter → PlainMeter
put_b f n = if f then with_hears_next (not n.hears_next) n else n

abbrev select_b : Bool → Bool → PlainMeter → Heard
select_b b f n =
    if b then (if (if f then n.hears_next else true) then answers E5 (reset (with_selected_value true (put_b f n))) else quiet (with_selected_value false (put_b f n)))
    else quiet (with_selected_value false n)

select-is : (d : List ℕ) (n : PlainMeter) → select d n ≡ select_b (matches d n) (flaky n.fault) n
unfolding select hears offered
select-is d n = refl

abbrev pub acknowledged : Bool → PlainMeter → Heard
acknowledged true n = answers E5 n
acknowledged false n = quiet n

pub acknowledged_meter : (b : Bool) (n : PlainMeter) → (acknowledged b n).meter ≡ n
acknowledged_meter true n = refl
acknowledged_meter false n = refl

module _ (m : PlainMeter) where
  stand-select : (b f se fr he cl : Bool) (a r : ℕ) → let y = (not f || he) && b in
      select_b b f (stand m se fr he cl a r) ≡ acknowledged y (stand m y (fr || y) (turned he (f && b)) (cl && not y) a r)
  stand-select true true se true true true a r = refl
  stand-select true true se true true false a r = refl
  stand-select true true se false true true a r = refl
  stand-select true true se false true false a r = refl
  stand-select true true se true false true a r = refl
  stand-select true true se true false false a r = refl
  stand-select true true se false false true a r = refl
  stand-select true true se false false false a r = refl
  stand-select true false se true true true a r = refl
  stand-select true false se true true false a r = refl
  stand-select true false se false true true a r = refl
  stand-select true false se false true false a r = refl
  stand-select true false se true false true a r = refl
  stand-select true false se true false false a r = refl
  stand-select true false se false false true a r = refl
  stand-select true false se false false false a r = refl
  stand-select false true se true true true a r = refl
  stand-select false true se true true false a r = refl
  stand-select false true se false true true a r = refl
  stand-select false true se false true false a r = refl
  stand-select false true se true false true a r = refl
  stand-select false true se true false false a r = refl
  stand-select false true se false false true a r = refl
  stand-select false true se false false false a r = refl
  stand-select false false se true true true a r = refl
  stand-select false false se true true false a r = refl
  stand-select false false se false true true a r = refl
  stand-select false false se false true false a r = refl
  stand-select false false se true false true a r = refl
  stand-select false false se true false false a r = refl
  stand-select false false se false false true a r = refl
  stand-select false false se false false false a r = refl

-- ---- the bits that say what kind of meter it is

abbrev pub never_read : Fault → Bool
never_read None = false
never_read Checksum = true
never_read Truncated = true
never_read Busy = true
never_read WrongAddress = false
never_read Flaky = false
never_read TooMany = false

abbrev pub too_many_value : Fault → Bool
too_many_value None = false
too_many_value Checksum = false
too_many_value Truncated = false
too_many_value Busy = false
too_many_value WrongAddress = false
too_many_value Flaky = false
too_many_value TooMany = true

pub record Bits (f : Fault) (s : ℕ) : Type 0 where
  pub steady : on (s / 16 % 2) ≡ not (flaky f)
  pub flaky' : on (s / 32 % 2) ≡ flaky f
  pub never : on (s / 64 % 2) ≡ never_read f
  pub many : on (s / 128 % 2) ≡ too_many_value f

-- they stand in the second nibble
pub in_nibble : (y : ℕ) → (y % 2 ≡ y % 16 % 2) × (y / 2 % 2 ≡ y % 16 / 2 % 2) × (y / 4 % 2 ≡ y % 16 / 4 % 2) × (y / 8 % 2 ≡ y % 16 / 8 % 2)
in_nibble y = (omega arith, omega arith, omega arith, omega arith)

halves : (x : ℕ) → (x / 32 ≡ x / 16 / 2) × (x / 64 ≡ x / 16 / 4) × (x / 128 ≡ x / 16 / 8)
halves x = (omega arith, omega arith, omega arith)

pub bits_kept : (f : Fault) (s t : ℕ) → t / 16 % 16 ≡ s / 16 % 16 → Bits f s → Bits f t
bits_kept f s t e k =
    let x = in_nibble (t / 16) in
    let y = in_nibble (s / 16) in
    let v = halves t in
    let w = halves s in
    record {
      steady = ap on (x.0 ∙ ap (λ n. n % 2) e ∙ sym y.0) ∙ k.steady;
      flaky' = ap on (ap (λ n. n % 2) v.0 ∙ x.1 ∙ ap (λ n. n / 2 % 2) e ∙ sym y.1 ∙ ap (λ n. n % 2) (sym w.0)) ∙ k.flaky';
      never = ap on (ap (λ n. n % 2) v.1 ∙ x.2 ∙ ap (λ n. n / 4 % 2) e ∙ sym y.2 ∙ ap (λ n. n % 2) (sym w.1)) ∙ k.never;
      many = ap on (ap (λ n. n % 2) v.2 ∙ x.3 ∙ ap (λ n. n / 8 % 2) e ∙ sym y.3 ∙ ap (λ n. n % 2) (sym w.2)) ∙ k.many;
    }

-- select of the meter that a mark stands for
pub select-marked : (d : List ℕ) (m : PlainMeter) (s : ℕ) → Bits m.fault s
    → let t = marked s (bit_if (matches d m)) in select d (as_marked m s) ≡ acknowledged (on (t % 2)) (as_marked m t)
unfolding as_marked matches
select-marked d m s k =
    select-is d (as_marked m s)
    ∙ stand-select m b f (on (s % 2)) (on (s / 2 % 2)) (on (s / 4 % 2)) (on (s / 8 % 2)) (s / 65536 % 256) (s / 256 % 256)
    ∙ sym (rw (marked_selected s b, marked-fresh s b, marked-hears s b, marked-clear s b, marked_access s b, marked_readouts s b, k.steady, k.flaky') refl)
  where
    b : Bool
    b = matches d m

    f : Bool
    f = flaky m.fault

-- ---- a mark that stands for no meter at bus baud

pub record Silent (s : ℕ) : Type 0 where
  pub even : on (s % 2) ≡ false
  pub misses : on (s / 4 % 2) ≡ false
  pub steady : on (s / 16 % 2) ≡ false
  pub flaky' : on (s / 32 % 2) ≡ false

pub silent_zero : Silent 0
silent_zero = record { even = refl; misses = refl; steady = refl; flaky' = refl }

pub silent_marked : (s : ℕ) (b : Bool) → Silent s → Silent (marked s (bit_if b))
silent_marked s b q =
    let e = marked_kind s b in
    let x : marked s (bit_if b) / 16 % 2 ≡ s / 16 % 2 = omega arith in
    let y : marked s (bit_if b) / 32 % 2 ≡ s / 32 % 2 = omega arith in
    record {
      even = marked_selected s b ∙ ap₂ (λ x y. (x || y) && b) q.steady q.misses;
      misses = marked-hears s b ∙ ap₂ (λ x y. turned x (y && b)) q.misses q.flaky';
      steady = ap on x ∙ q.steady;
      flaky' = ap on y ∙ q.flaky';
    }
