-- The marks with which a search begins stand for the segment's own meters, and those with which it ends are put back.
use Rattle.std.specs.Prelude.{if◌then◌else◌}
use mathlib.Core.Path.{◌≡◌, refl, sym, ap, ap₂, ◌∙◌, subst}
use mathlib.Core.Bool.{Bool, true, false}
use mathlib.Core.List.{List, [], ◌∷◌, ◌++◌, map}
use Prim.Native.Nat.{ℕ, zero, suc, ◌+◌, ◌*◌, ◌/◌, ◌%◌, ◌≤◌, ◌<◌}
use native.Mathlib.Nat.{mod-eq_of_lt}
use native.Mathlib.Omega.{arith}
use lib.Dec.{eqb}
use lib.ListN.{length, drop, replicate}
use Rattle.laws.specs.Words.{Every, bit_if}
use Rattle.meter.specs.PlainMeter.{PlainMeter}
use Rattle.meter.specs.declared.Fault.{Fault}
use Rattle.meter.specs.declared.Fault.TheVariants.{None, Checksum, Truncated, Busy, WrongAddress, Flaky, TooMany}
use Rattle.list_open.specs.Opening.{capacity}
use Rattle.search_packed.specs.ProgramMarks.{swept_by}
use Rattle.search.specs.ProgramPacking.{fault_bits_value, key_of_value, mark_of_value, packed, Bounded, on, stand, as_marked, seen_as, seen_by}
use Rattle.search.proofs.BitLaws.{bit_if_lem, bit_on, bit_small}
use Rattle.search.proofs.MarkLaws.{in_nibble, Bits, bits_kept, Silent, silent_zero}
use Rattle.search.proofs.PackedProbe.{Holds, AllHold, seen_all}

-- ---- one meter

abbrev total : ℕ → ℕ → ℕ → ℕ → ℕ → ℕ
total x y f r a = x + y * 4 + f * 16 + r * 256 + a * 65536

total_parts : (x y f r a s : ℕ) → x ≤ 1 → y ≤ 1 → f < 16 → r < 256 → a < 256 → s ≡ total x y f r a
    → (s % 2 ≡ x) × (s / 2 % 2 ≡ 0) × (s / 4 % 2 ≡ y) × (s / 8 % 2 ≡ 0) × (s / 16 % 16 ≡ f) × (s / 256 % 256 ≡ r) × (s / 65536 % 256 ≡ a)
total_parts x y f r a s px py pf pr pa e =
    let b : s / 16 ≡ f + (r + a * 256) * 16 = omega arith in
    let c : s / 256 ≡ r + a * 256 = omega arith in
    let d : s / 65536 ≡ a = omega arith in
    let l : s % 16 ≡ x + y * 4 = omega arith in
    let q = in_nibble s in (
      q.0 ∙ ap (λ n. n % 2) l ∙ (first x y px py).0,
      q.1 ∙ ap (λ n. n / 2 % 2) l ∙ (first x y px py).1,
      q.2 ∙ ap (λ n. n / 4 % 2) l ∙ (first x y px py).2,
      q.3 ∙ ap (λ n. n / 8 % 2) l ∙ (first x y px py).3,
      nibble f (r + a * 256) (s / 16) pf b,
      byte r a (s / 256) pr c,
      byte a 0 (s / 65536) pa (d ∙ omega arith),
    )
  where
    nibble : (f w x : ℕ) → f < 16 → x ≡ f + w * 16 → x % 16 ≡ f
    nibble f w x h e = omega arith

    byte : (r w x : ℕ) → r < 256 → x ≡ r + w * 256 → x % 256 ≡ r
    byte r w x h e = omega arith

    first : (x y : ℕ) → x ≤ 1 → y ≤ 1 → ((x + y * 4) % 2 ≡ x) × ((x + y * 4) / 2 % 2 ≡ 0) × ((x + y * 4) / 4 % 2 ≡ y) × ((x + y * 4) / 8 % 2 ≡ 0)
    first x y px py = (omega arith, omega arith, omega arith, omega arith)

fault_bits_lem : (f : Fault) → (fault_bits_value f ≡ fault_bits_value f / 16 * 16) × (fault_bits_value f / 16 < 16) × Bits f (fault_bits_value f)
fault_bits_lem None = (refl, omega arith, record { steady = refl; flaky' = refl; never = refl; many = refl })
fault_bits_lem Checksum = (refl, omega arith, record { steady = refl; flaky' = refl; never = refl; many = refl })
fault_bits_lem Truncated = (refl, omega arith, record { steady = refl; flaky' = refl; never = refl; many = refl })
fault_bits_lem Busy = (refl, omega arith, record { steady = refl; flaky' = refl; never = refl; many = refl })
fault_bits_lem WrongAddress = (refl, omega arith, record { steady = refl; flaky' = refl; never = refl; many = refl })
fault_bits_lem Flaky = (refl, omega arith, record { steady = refl; flaky' = refl; never = refl; many = refl })
fault_bits_lem TooMany = (refl, omega arith, record { steady = refl; flaky' = refl; never = refl; many = refl })

module _ (bus : ℕ) (m : PlainMeter) (z : Bounded m) where
  here : eqb m.baud bus ≡ true → mark_of_value bus m ≡ total (bit_if m.selected) (bit_if m.hears_next) (fault_bits_value m.fault / 16) m.readouts m.access
  unfolding mark_of_value
  here e =
      ap (λ b. if b then bit_if m.selected + bit_if m.hears_next * 4 + fault_bits_value m.fault + m.readouts * 256 + m.access * 65536 else 0) e
      ∙ ap (λ f. bit_if m.selected + bit_if m.hears_next * 4 + f + m.readouts * 256 + m.access * 65536) (fault_bits_lem m.fault).0

  elsewhere : eqb m.baud bus ≡ false → mark_of_value bus m ≡ 0
  unfolding mark_of_value
  elsewhere e = ap (λ b. if b then bit_if m.selected + bit_if m.hears_next * 4 + fault_bits_value m.fault + m.readouts * 256 + m.access * 65536 else 0) e

  abbrev s : ℕ
  s = mark_of_value bus m

  parts : eqb m.baud bus ≡ true
      → (s % 2 ≡ bit_if m.selected) × (s / 2 % 2 ≡ 0) × (s / 4 % 2 ≡ bit_if m.hears_next) × (s / 8 % 2 ≡ 0) × (s / 16 % 16 ≡ fault_bits_value m.fault / 16) × (s / 256 % 256 ≡ m.readouts)
      × (s / 65536 % 256 ≡ m.access)
  parts e = total_parts (bit_if m.selected) (bit_if m.hears_next) (fault_bits_value m.fault / 16) m.readouts m.access s (bit_small (bit_if_lem m.selected)) (bit_small (bit_if_lem m.hears_next)) (fault_bits_lem m.fault).1 z.readouts z.access (here e)

  stands : eqb m.baud bus ≡ true → as_marked m s ≡ m
  unfolding as_marked
  stands e =
      let p = parts e in
      λ i. stand m ((ap on p.0 ∙ bit_on (bit_if_lem m.selected)) i) (on (p.1 i)) ((ap on p.2 ∙ bit_on (bit_if_lem m.hears_next)) i) (on (p.3 i)) (p.6 i) (p.5 i)

  pub start_seen : seen_as bus m s ≡ m
  unfolding seen_as
  start_seen = go (eqb m.baud bus) refl
    where
      go : (b : Bool) → eqb m.baud bus ≡ b → (if b then as_marked m s else m) ≡ m
      go true e = stands e
      go false e = refl

  pub start_holds : Holds bus m (key_of_value m) s
  start_holds =
      record {
        small = z.key;
        digits = z.digits;
        bits = λ e. bits_kept m.fault (fault_bits_value m.fault) s ((parts e).4 ∙ sym (mod-eq_of_lt (fault_bits_lem m.fault).1)) (fault_bits_lem m.fault).2;
        away = λ e. subst Silent (sym (elsewhere e)) silent_zero;
      }

-- ---- all meters

silent_zeros : (n m : ℕ) → Every Silent (drop n (replicate m 0))
silent_zeros zero zero = tt
silent_zeros zero (suc m) = (silent_zero, silent_zeros zero m)
silent_zeros (suc n) zero = tt
silent_zeros (suc n) (suc m) = silent_zeros n m

module _ (bus : ℕ) where
  all_start : (ms : List PlainMeter) (ks zs : List ℕ) → Every Silent zs → Every Bounded ms → AllHold bus ms (map key_of_value ms ++ ks) (map (mark_of_value bus) ms ++ zs)
  all_start [] ks zs q b = q
  all_start (m ∷ ms) ks zs q b = (start_holds bus m b.0, all_start ms ks zs q b.1)

  all_seen : (ms : List PlainMeter) (zs : List ℕ) → Every Bounded ms → seen_all bus ms (map (mark_of_value bus) ms ++ zs) ≡ ms
  unfolding seen_all
  all_seen [] zs b = refl
  all_seen (m ∷ ms) zs b = ap₂ (λ x xs. x ∷ xs) (start_seen bus m b.0) (all_seen ms zs b.1)

  module _ (ms : List PlainMeter) (b : Every Bounded ms) where
    pub packed_hold : AllHold bus ms (packed key_of_value ms) (packed (mark_of_value bus) ms)
    unfolding packed
    packed_hold = all_start ms (drop (length ms) (replicate capacity 0)) (drop (length ms) (replicate capacity 0)) (silent_zeros (length ms) capacity) b

    pub packed_seen : seen_all bus ms (packed (mark_of_value bus) ms) ≡ ms
    unfolding packed
    packed_seen = all_seen ms (drop (length ms) (replicate capacity 0)) b

  -- put back
  pub swept_seen : (ss : List ℕ) (ms : List PlainMeter) → length ms ≤ length ss → swept_by (seen_by bus) (length ms) ss ms ≡ seen_all bus ms ss
  unfolding seen_all
  swept_seen ss [] h = refl
  swept_seen [] (m ∷ ms) h = absurd (omega arith)
  swept_seen (s ∷ ss) (m ∷ ms) h = ap (λ xs. seen_as bus m s ∷ xs) (swept_seen ss ms (omega arith))
