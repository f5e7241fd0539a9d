-- The rules of a record, one by one: id, manufacturer, own baud; and the id's digits as a number.
use mathlib.Core.Path.{◌≡◌, refl, ap, ◌∙◌, sym}
use mathlib.Core.Bool.{Bool, true, false, ◌&&◌, or-false}
use mathlib.Core.List.{List, [], ◌∷◌}
use Prim.Native.Nat.{ℕ, zero, suc, ◌+◌, ◌-◌, ◌*◌, ◌^◌, ◌≤◌, ◌<◌, zero-le}
use native.Mathlib.Nat.{le_of_suc-le-suc, not-suc-le-zero, pow-suc, pow-le-pow_right, mul-le-mul_left}
use native.Mathlib.Numerals.{add-one, add-one-le}
use native.Mathlib.Omega.{arith}
use lib.Dec.{eqb, leb, lit≤}
use lib.ListN.{length}
use Rattle.std.specs.List.{list_all}
use borrow.Author.Tests.{eq-eqb, ne_eqb, eqb-true, leb-true}
use Rattle.laws.specs.Words.{at, same_list}
use Rattle.std.specs.List.{fold}
use Rattle.laws.proofs.Lists.{and_l, and_r}
use Rattle.laws.proofs.Sweep.{Folded, folded_none, folded_more, folded_whole}
use Rattle.meter_identity.specs.Identity.{in_base}
use Rattle.list_check.specs.Tables.{medium_heat_old}
use Rattle.list_check.specs.Check.{all_within_value, text_digits, good_id_value, good_manufacturer_value}

-- ---- every byte between two

pub within_all : (lo hi : ℕ) (t : List ℕ) → list_all (λ c. leb lo c && leb c hi) t ≡ all_within_value lo hi t
within_all lo hi [] = refl
within_all lo hi (b ∷ bs) = ap (λ (x : Bool). leb lo b && leb b hi && x) (within_all lo hi bs)

-- ---- id

pub id_other : (t : List ℕ) → (length t ≡ 8 → ⊥) → false ≡ good_id_value t
unfolding good_id_value
id_other t h = rw (ne_eqb (length t) 8 h)

pub id_eight : (t : List ℕ) {r : Bool} → length t ≡ 8 → r ≡ all_within_value 0x30 0x39 t → r ≡ good_id_value t
unfolding good_id_value
id_eight t h q = rw (eq-eqb (length t) 8 h) q

pub id_length : (t : List ℕ) → good_id_value t ≡ true → length t ≡ 8
unfolding good_id_value
id_length t h = eqb-true (length t) 8 (and_l (eqb (length t) 8) (all_within_value 0x30 0x39 t) h)

within-at : (lo hi : ℕ) (t : List ℕ) (i : ℕ) → all_within_value lo hi t ≡ true → i < length t → (lo ≤ at t i) × (at t i ≤ hi)
within-at lo hi [] i h k = absurd (not-suc-le-zero k)
within-at lo hi (b ∷ bs) zero h k =
    let both = and_l (leb lo b && leb b hi) (all_within_value lo hi bs) h in
    (leb-true lo b (and_l (leb lo b) (leb b hi) both), leb-true b hi (and_r (leb lo b) (leb b hi) both))
within-at lo hi (b ∷ bs) (suc i) h k = within-at lo hi bs i (and_r (leb lo b && leb b hi) (all_within_value lo hi bs) h) (le_of_suc-le-suc k)

pub id_digit : (t : List ℕ) (i : ℕ) → good_id_value t ≡ true → i < 8 → (0x30 ≤ at t i) × (at t i ≤ 0x39)
unfolding good_id_value
id_digit t i h k = within-at 0x30 0x39 t i (and_r (eqb (length t) 8) (all_within_value 0x30 0x39 t) h) (omega (arith, id_length t h))

-- ---- manufacturer

pub manufacturer_none : (t m : List ℕ) {r : Bool} → length t ≡ 0 → r ≡ same_list medium_heat_old.key m → r ≡ good_manufacturer_value t m
unfolding good_manufacturer_value
manufacturer_none t m h q = rw (ne_eqb (length t) 3 (λ e. omega arith), eq-eqb (length t) 0 h) q

pub manufacturer_other : (t m : List ℕ) → (length t ≡ 0 → ⊥) → (length t ≡ 3 → ⊥) → false ≡ good_manufacturer_value t m
unfolding good_manufacturer_value
manufacturer_other t m h k = rw (ne_eqb (length t) 3 k, ne_eqb (length t) 0 h)

pub manufacturer_three : (t m : List ℕ) {r : Bool} → length t ≡ 3 → r ≡ all_within_value 0x41 0x5A t → r ≡ good_manufacturer_value t m
unfolding good_manufacturer_value
manufacturer_three t m {r} h q = rw (eq-eqb (length t) 3 h, ne_eqb (length t) 0 (λ e. omega arith)) (q ∙ sym (or-false (all_within_value 0x41 0x5A t)))

-- ---- the digits as a number

-- the loop over the text: the number of its first i digits, below 16 to the i
abbrev grow : ℕ → ℕ → ℕ → ℕ
grow b n c = n * b + (c - 0x30)

pub record DigitsTo (b : ℕ) (t : List ℕ) (i n : ℕ) : Type 0 where
  pub few : i ≤ 8
  pub below : n < 16 ^ i
  pub is : Folded (grow b) 0 t i n

pub digits_none : (b : ℕ) (t : List ℕ) → DigitsTo b t 0 0
digits_none b t = record { few = zero-le; below = lit≤ tt; is = folded_none }

fold_map : (b s : ℕ) (t : List ℕ) → fold (grow b) s t ≡ fold (λ (n : ℕ) (d : ℕ). n * b + d) s (text_digits t)
fold_map b s [] = refl
fold_map b s (c ∷ t) = fold_map b (s * b + (c - 0x30)) t

module _ {b i n : ℕ} {t : List ℕ} (s : DigitsTo b t i n) (small : b ≤ 16) where
  -- the next number stays below 16 to the i + 1, which has 32 bits
  pub record Room (d : ℕ) : Type 0 where
    pub product : n * b < 2 ^ 32
    pub sum : n * b + d < 2 ^ 32
    pub next : n * b + d < 16 ^ (i + 1)

  pub digits_room : (d : ℕ) → i < 8 → d < 10 → Room d
  digits_room d h k =
      let m : n * b ≤ n * 16 = mul-le-mul_left n small in
      let p : 16 ^ (i + 1) ≡ 16 ^ i * 16 = ap (λ (e : ℕ). 16 ^ e) (add-one i) ∙ pow-suc 16 i in
      let q : 16 ^ (i + 1) ≤ 16 ^ 8 = pow-le-pow_right (lit≤ tt) (add-one-le h) in
      let r : n * b + d < 16 ^ (i + 1) = omega (arith, s.below) in
      record { product = omega arith; sum = omega arith; next = r }

  pub digits_more : {v w : ℕ} → i < 8 → length t ≡ 8 → w < 10 → w ≡ at t i - 0x30 → v ≡ n * b + w → DigitsTo b t (i + 1) v
  digits_more {v} {w} h l k e q =
      record {
        few = omega arith;
        below = rw q (digits_room w h k).next;
        is = folded_more 0 s.is (omega arith) (q ∙ ap (λ (d : ℕ). n * b + d) e);
      }

  pub digits_all : length t ≡ 8 → 8 ≤ i → n ≡ in_base b (text_digits t)
  unfolding in_base
  digits_all l h = folded_whole s.is (omega arith) ∙ fold_map b 0 t
