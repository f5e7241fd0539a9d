-- Packing and unpacking: the loops, and the small choices.
use mathlib.Core.Path.{◌≡◌, refl, sym, ap, ap₂, ◌∙◌, subst}
use mathlib.Core.List.{List, [], ◌∷◌, ◌++◌, map}
use Prim.Native.Nat.{ℕ, zero, suc, ◌+◌, ◌*◌, ◌/◌, ◌%◌, ◌<◌, max}
use native.Mathlib.Nat.{le_of_suc-le-suc, not-suc-le-zero}
use native.Mathlib.Numerals.{add-one}
use native.Mathlib.Omega.{arith}
use borrow.Author.Tests.{eq-eqb, ne_eqb}
use lib.ListN.{length, take, drop, set, get_or, replicate, get_or-map, length-map}
use lib.Seq.{take_all}
use Rattle.laws.specs.Words.{Every, bit_if}
use Rattle.meter_identity.specs.Identity.{digits_of_value}
use Rattle.laws.proofs.Copying.{Copied, copied_none, copied_more, copied_front}
use Rattle.meter.specs.PlainMeter.{PlainMeter}
use Rattle.meter.specs.Meter.{with}
use Rattle.meter.specs.View.{plain_meter}
use Rattle.meter.specs.declared.Meter.{Meter}
use Rattle.std.specs.Prelude.{Option, Bool}
use Rattle.list_open.specs.Opening.{capacity}
use Rattle.segment.specs.Plain.{Plain, with_meters}
use Rattle.segment_image.specs.Image.{decode_image}
use Rattle.segment_places.specs.ProgramBecomes.{meter_in, Becomes}
use Rattle.segment_places.proofs.Becoming.{becomes_same, becomes_as, becomes_then}
use Rattle.segment_places.proofs.PlaceLaws.{meter-at}
use Rattle.search_packed.proofs.MarkSweep.{Sweep, sweep_none, sweep_more, sweep_all}
use Rattle.search.specs.declared.Kind.TheVariants.{Many}
use Rattle.search.specs.ProgramPacking.{fault_bits_value, mark_of_value, Bounded, packed, on, last_in_value, part_in_value, as_marked, seen_as, seen_by, unmarked, kind_in, count_in}
use Rattle.search.proofs.KeyDigits.{id_key}

-- ---- a front number

pub counted : (n : ℕ) → max n 1 ≡ count_in n
counted zero = refl
counted (suc n) = omega arith

pub several : (n : ℕ) → (n ≡ 0 → ⊥) → (n ≡ 1 → ⊥) → Many ≡ kind_in n
several zero h k = absurd (h refl)
several (suc zero) h k = absurd (k refl)
several (suc (suc n)) h k = refl

-- ---- loops

-- f of the first i elements of xs stands over d
pub record Mapped {A B : Type 0} (f : A → B) (d : List B) (xs : List A) (i : ℕ) (l : List B) : Type 0 where
  pub copied : Copied d 0 (map f xs) i l

module _ {A B : Type 0} {f : A → B} {d : List B} {xs : List A} where
  pub mapped_none : Mapped f d xs 0 d
  mapped_none = record { copied = copied_none }

  module _ {i : ℕ} {l : List B} (c : Mapped f d xs i l) where
    pub mapped_more : {v : B} (z : A) → i < length d → i < length xs → v ≡ f (get_or xs i z) → Mapped f d xs (i + 1) (set l i v)
    mapped_more z h k e =
        record { copied = copied_more (f z) c.copied (omega arith) (omega arith) (omega (arith, length-map xs f)) (e ∙ sym (get_or-map f xs i z)) }

    pub mapped_all : i ≡ length xs → l ≡ map f xs ++ drop (length xs) d
    mapped_all e =
        copied_front c.copied ∙ ap (λ (j : ℕ). take j (map f xs) ++ drop j d) e
        ∙ ap (λ (x : List B). x ++ drop (length xs) d) (take_all (length xs) (map f xs) (omega (arith, length-map xs f)))

module _ {A : Type 0} (P : A → Type 0) where
  every_more : (xs : List A) (i : ℕ) (z : A) → i < length xs → Every P (take i xs) → P (get_or xs i z) → Every P (take (i + 1) xs)
  every_more xs i z h q p = rw add-one (go xs i h q p)
    where
      go : (xs : List A) (i : ℕ) → i < length xs → Every P (take i xs) → P (get_or xs i z) → Every P (take (suc i) xs)
      go [] i h q p = absurd (not-suc-le-zero h)
      go (x ∷ xs) zero h q p = (p, tt)
      go (x ∷ xs) (suc i) h q p = (q.0, go xs i (le_of_suc-le-suc h) q.1 p)

-- ---- the meters of an image

-- a meter that was read is the one that stands there
read_there : (l : List ℕ) (i : ℕ) (m : Meter) → i < length (decode_image l).meters → plain_meter m ≡ meter_in i l → plain_meter m ≡ get_or (decode_image l).meters i (plain_meter m)
read_there l i m h e = e ∙ sym (meter-at l i (plain_meter m) h)

module _ (l : List ℕ) where
  module _ {i : ℕ} {f : PlainMeter → ℕ} {d ks : List ℕ} (c : Mapped f d (decode_image l).meters i ks) where
    pub packed_more : {v : ℕ} (m : Meter) → i < length d → i < length (decode_image l).meters → plain_meter m ≡ meter_in i l → v ≡ f (plain_meter m) → Mapped f d (decode_image l).meters (i + 1) (set ks i v)
    packed_more m h n e g = mapped_more c (plain_meter m) h n (g ∙ ap f (read_there l i m n e))

    pub packed_all : i ≡ length (decode_image l).meters → d ≡ replicate capacity 0 → ks ≡ packed f (decode_image l).meters
    unfolding packed
    packed_all e z =
        let xs = (decode_image l).meters in
        mapped_all c e ∙ ap (λ y. map f xs ++ drop (length xs) y) z

  module _ (P : PlainMeter → Type 0) (i : ℕ) (q : Every P (take i (decode_image l).meters)) where
    pub read_more : (m : Meter) → i < length (decode_image l).meters → plain_meter m ≡ meter_in i l → P (plain_meter m) → Every P (take (i + 1) (decode_image l).meters)
    read_more m h e p = every_more P (decode_image l).meters i (plain_meter m) h q (subst P (read_there l i m h e) p)

    pub read_all : i ≡ length (decode_image l).meters → Every P (decode_image l).meters
    read_all e = subst (Every P) (take_all i (decode_image l).meters (omega arith)) q

-- what the program's types say
pub meter_bounded : (m : Meter) → m.built.id < 0x100000000 → m.state.access < 256 → m.state.readouts < 256 → Bounded (plain_meter m)
meter_bounded m h a r =
    let e = id_key m.built.id h in
    record { key = omega (arith, e); digits = ap digits_of_value (sym e); access = a; readouts = r }

-- the first i meters are as their marks have them, and all else is as it was
pub record Unmarked (marks old : List ℕ) (i : ℕ) (new : List ℕ) : Type 0 where
  pub sweep : Sweep (seen_by (decode_image old).baud) (λ a s m. a) 0 marks (decode_image old).meters i (decode_image new).meters 0
  pub becomes : Becomes old (with_meters (decode_image new).meters (decode_image old)) new

module _ {marks old : List ℕ} where
  pub unmarked-none : Unmarked marks old 0 old
  unmarked-none = record { sweep = sweep_none; becomes = becomes_same }

  module _ {i : ℕ} {new : List ℕ} (u : Unmarked marks old i new) where
    pub unmarked_more : {next : List ℕ} (m k : Meter) → i < length marks → i < length (decode_image old).meters → plain_meter m ≡ meter_in i new
        → plain_meter k ≡ seen_as (decode_image old).baud (plain_meter m) (get_or marks i 0)
        → Becomes new (with_meters (set (decode_image new).meters i (plain_meter k)) (decode_image new)) next
        → Unmarked marks old (i + 1) next
    unmarked_more {next} m k h l e f b =
        let n : i < length (decode_image new).meters = omega (arith, (sweep_all i u.sweep refl).2) in
        let after : (decode_image next).meters ≡ set (decode_image new).meters i (plain_meter k) = ap (λ (s : Plain). s.meters) b.means in
        record {
          sweep = subst (λ ms. Sweep (seen_by (decode_image old).baud) (λ a s m. a) 0 marks (decode_image old).meters (i + 1) ms 0) (sym after)
              (sweep_more 0 (plain_meter m) u.sweep h l (f ∙ ap (λ x. seen_as (decode_image old).baud x (get_or marks i 0)) (read_there new i m n e)) refl);
          becomes = becomes_then u.becomes (becomes_as (ap₂ with_meters (sym after) u.becomes.means) b);
        }

    pub unmarked_all : i ≡ length (decode_image old).meters → Becomes old (unmarked marks (decode_image old)) new
    unmarked_all e = becomes_as (ap (λ ms. with_meters ms (decode_image old)) (sweep_all (length (decode_image old).meters) u.sweep e).0) u.becomes

-- ---- the mark with which a search begins

module _ (bus : ℕ) (m : PlainMeter) where
  pub mark_here : m.baud ≡ bus → (a b c r n : ℕ) → a ≡ bit_if m.selected → b ≡ bit_if m.hears_next → c ≡ fault_bits_value m.fault → r ≡ m.readouts → n ≡ m.access
      → a + b * 4 + c + r * 256 + n * 65536 ≡ mark_of_value bus m
  unfolding mark_of_value
  mark_here h a b c r n ea eb ec er en = rw (eq-eqb m.baud bus h, ea, eb, ec, er, en)

  pub mark_away : (m.baud ≡ bus → ⊥) → 0 ≡ mark_of_value bus m
  unfolding mark_of_value
  mark_away h = rw (ne_eqb m.baud bus h)

-- ---- a meter back from its mark

pub unmark_here : (bus s : ℕ) (m : Meter) (l : Option Bool) (p : ℕ) → m.state.baud ≡ bus → l ≡ last_in_value (on (s / 8 % 2)) (on (s / 2 % 2)) m.state.last → p ≡ part_in_value (on (s / 8 % 2)) (on (s / 2 % 2)) m.state.part
    → with (plain_meter m) (m.state.primary, m.state.baud) (on (s % 2)) (p, l) (s / 65536 % 256, s / 256 % 256) (on (s / 4 % 2)) ≡ seen_as bus (plain_meter m) s
unfolding seen_as as_marked
unmark_here bus s m l p h el ep = rw (eq-eqb m.state.baud bus h, el, ep)

pub unmark_away : (bus s : ℕ) (m : Meter) → (m.state.baud ≡ bus → ⊥) → plain_meter m ≡ seen_as bus (plain_meter m) s
unfolding seen_as
unmark_away bus s m h = rw (ne_eqb m.state.baud bus h)
