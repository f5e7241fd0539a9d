-- A mask over an id as one number is the match digit by digit.
use Rattle.std.specs.Prelude.{if◌then◌else◌}
use mathlib.Core.Path.{◌≡◌, refl, sym, ap, ap₂, ◌∙◌}
use mathlib.Core.Bool.{Bool, true, false, ◌&&◌, ◌||◌, and-true, and-false, or-false}
use mathlib.Core.List.{List, [], ◌∷◌}
use Prim.Native.Nat.{ℕ, ◌+◌, ◌*◌, ◌/◌, ◌%◌, ◌^◌, ◌≤◌, ◌<◌}
use native.Mathlib.Nat.{zero-add}
use native.Mathlib.Omega.{arith}
use borrow.Author.Tests.{eqb-true, eq-eqb, ne_eqb, le-leb, lt-leb}
use lib.Dec.{eqb}
use lib.ListN.{length}
use lib.Bits.{bit_and, and_zero_r, and_mask, and_block, and_le_l}
use Rattle.std.proofs.lemmas.Bool.{and_from}
use Rattle.laws.specs.Words.{at}
use Rattle.laws.proofs.Lists.{and_l, and_r, four}
use Rattle.numbers.specs.Number.{number}
use Rattle.meter_identity.specs.Identity.{nibbles, digits_of_value}
use Rattle.frame.specs.Frame.{long}
use Rattle.meter_step.specs.Hear.{is_select_value, reaches}
use Rattle.meter_concern.specs.ProgramConcern.{concerns}
use Rattle.meter_select.specs.Matching.{alike, id_matches_value}
use Rattle.meter_select.proofs.MatchLaws.{two, by_bytes}
use Rattle.meter_concern.specs.declared.Seeking.{Seeking}
use Rattle.meter_concern.specs.ProgramSeeking.{known_digit_value, known_digits, first_bytes, sought_by_value, Seeks}

-- ---- tests

-- a test of two numbers, by what it says
eqb_as : (m n : ℕ) (b : Bool) → (m ≡ n → b ≡ true) → (b ≡ true → m ≡ n) → eqb m n ≡ b
eqb_as m n true f g = eq-eqb m n (g refl)
eqb_as m n false f g = ne_eqb m n (λ e. let z : ◌≡◌ {A = Bool} false true = f e in let w : ◌≡◌ {A = ℕ} 0 1 = cc in omega arith)

eqb-sym : (m n : ℕ) → eqb m n ≡ eqb n m
eqb-sym m n = eqb_as m n (eqb n m) (λ e. eq-eqb n m (sym e)) (λ e. sym (eqb-true n m e))

-- two numbers in two parts each
eqb_16 : (a b x y : ℕ) → x < 16 → y < 16 → eqb (a * 16 + x) (b * 16 + y) ≡ (eqb a b && eqb x y)
eqb_16 a b x y h k =
    eqb_as (a * 16 + x) (b * 16 + y) (eqb a b && eqb x y) (λ e. and_from (eqb a b) (eqb x y) (eq-eqb a b (omega arith)) (eq-eqb x y (omega arith)))
    (λ e. let p = eqb-true a b (and_l (eqb a b) (eqb x y) e) in let q = eqb-true x y (and_r (eqb a b) (eqb x y) e) in omega arith)

eqb_256 : (a b x y : ℕ) → x < 256 → y < 256 → eqb (a * 256 + x) (b * 256 + y) ≡ (eqb a b && eqb x y)
eqb_256 a b x y h k =
    eqb_as (a * 256 + x) (b * 256 + y) (eqb a b && eqb x y) (λ e. and_from (eqb a b) (eqb x y) (eq-eqb a b (omega arith)) (eq-eqb x y (omega arith)))
    (λ e. let p = eqb-true a b (and_l (eqb a b) (eqb x y) e) in let q = eqb-true x y (and_r (eqb a b) (eqb x y) e) in omega arith)

-- ---- digits and bytes

-- two numbers are the same where a mask has them
abbrev same : ℕ → ℕ → ℕ → Bool
same x d k = eqb (bit_and x k) (bit_and d k)

digit_same : (d x : ℕ) → d < 16 → x < 16 → same x d (known_digit_value d) ≡ (eqb d 0xF || eqb d x)
digit_same d x h k = go (eqb d 0xF) refl
  where
    go : (b : Bool) → eqb d 0xF ≡ b → same x d (if b then 0 else 0xF) ≡ (b || eqb d x)
    go true e = rw (and_zero_r x, and_zero_r d)
    go false e =
        let p : x % 16 ≡ x = omega arith in
        let q : d % 16 ≡ d = omega arith in
        ap₂ eqb (and_mask x 4 ∙ p) (and_mask d 4 ∙ q) ∙ eqb-sym x d

known_small : (d : ℕ) → known_digit_value d < 16
known_small d = go (eqb d 0xF)
  where
    go : (b : Bool) → (if b then 0 else 0xF) < 16
    go true = omega arith
    go false = omega arith

parts_same : (h l d e j k : ℕ) → l < 16 → e < 16 → k < 16 → same (h * 16 + l) (d * 16 + e) (j * 16 + k) ≡ (same h d j && same l e k)
parts_same h l d e j k p q r =
    ap₂ eqb (and_block 4 h j l k p r) (and_block 4 d j e k q r)
    ∙ eqb_16 (bit_and h j) (bit_and d j) (bit_and l k) (bit_and e k) (omega (arith, and_le_l l k)) (omega (arith, and_le_l e k))

byte_same : (b v : ℕ) → b < 256 → v < 256 → same v b (known_digits b) ≡ two b v
unfolding alike
byte_same b v h k =
    let e : v ≡ v / 16 * 16 + v % 16 = omega arith in
    let f : b ≡ b / 16 * 16 + b % 16 = omega arith in
    let m = known_digits b in
    ap₂ (λ x y. same x y m) e f
    ∙ parts_same (v / 16) (v % 16) (b / 16) (b % 16) (known_digit_value (b / 16)) (known_digit_value (b % 16)) (omega arith) (omega arith) (known_small (b % 16))
    ∙ ap₂ (λ x y. x && y) (digit_same (b / 16) (v / 16) (omega arith) (omega arith)) (digit_same (b % 16) (v % 16) (omega arith) (omega arith))
    ∙ ap (λ x. (eqb (b / 16) 15 || eqb (b / 16) (v / 16)) && x) (sym (and-true (eqb (b % 16) 15 || eqb (b % 16) (v % 16))))

bytes_same : (h l d e j k : ℕ) → l < 256 → e < 256 → k < 256 → same (l + 256 * h) (e + 256 * d) (k + 256 * j) ≡ (same h d j && same l e k)
bytes_same h l d e j k p q r =
    let x : l + 256 * h ≡ h * 256 + l = omega arith in
    let y : e + 256 * d ≡ d * 256 + e = omega arith in
    let z : k + 256 * j ≡ j * 256 + k = omega arith in
    ap₂ eqb (ap₂ bit_and x z ∙ and_block 8 h j l k p r) (ap₂ bit_and y z ∙ and_block 8 d j e k q r)
    ∙ eqb_256 (bit_and h j) (bit_and d j) (bit_and l k) (bit_and e k) (omega (arith, and_le_l l k)) (omega (arith, and_le_l e k))

in_turn : (a b c d : Bool) → ((((true && a) && b) && c) && d) ≡ (a && (b && (c && d)))
in_turn true true c d = refl
in_turn true false c d = refl
in_turn false b c d = refl

-- the bytes of a mask
abbrev pub known_bytes : List ℕ → List ℕ
known_bytes d = known_digits (at d 0) ∷ known_digits (at d 1) ∷ known_digits (at d 2) ∷ known_digits (at d 3) ∷ []

-- the mask over the id, all four bytes
mask_same : (d : List ℕ) (id : ℕ) → id < 2 ^ 32 → ((i : ℕ) → at d i < 256) → same id (number 4 0 (four d)) (number 4 0 (known_bytes d)) ≡ alike (nibbles d) (digits_of_value id)
unfolding number
mask_same d id h small =
    let b₀ = id % 256 in
    let b₁ = id / 0x100 % 256 in
    let b₂ = id / 0x10000 % 256 in
    let b₃ = id / 0x1000000 % 256 in
    let k : ℕ → ℕ = λ i. known_digits (at d i) in
    let low : (i : ℕ) → k i < 256 = λ i. omega (arith, known_small (at d i / 16), known_small (at d i % 16)) in
    let e : id ≡ b₀ + 256 * (b₁ + 256 * (b₂ + 256 * (b₃ + 256 * 0))) = omega arith in
    ap (λ x. same x (number 4 0 (four d)) (number 4 0 (known_bytes d))) e
    ∙ bytes_same _ b₀ _ (at d 0) _ (k 0) (omega arith) (small 0) (low 0)
    ∙ ap (λ x. x && same b₀ (at d 0) (k 0))
    (bytes_same _ b₁ _ (at d 1) _ (k 1) (omega arith) (small 1) (low 1)
    ∙ ap (λ x. x && same b₁ (at d 1) (k 1))
    (bytes_same _ b₂ _ (at d 2) _ (k 2) (omega arith) (small 2) (low 2)
    ∙ ap (λ x. x && same b₂ (at d 2) (k 2)) (bytes_same 0 b₃ 0 (at d 3) 0 (k 3) (omega arith) (small 3) (low 3))))
    ∙ in_turn (same b₃ (at d 3) (k 3)) (same b₂ (at d 2) (k 2)) (same b₁ (at d 1) (k 1)) (same b₀ (at d 0) (k 0))
    ∙ ap₂ (λ x y. x && y) (byte_same (at d 3) b₃ (small 3) (omega arith))
    (ap₂ (λ x y. x && y) (byte_same (at d 2) b₂ (small 2) (omega arith))
    (ap₂ (λ x y. x && y) (byte_same (at d 1) b₁ (small 1) (omega arith)) (byte_same (at d 0) b₀ (small 0) (omega arith))))
    ∙ sym (by_bytes d id h)

-- ---- the first bytes under a mask

-- one that has nothing of the primary address
under_id : (p i more m : ℕ) → p < 256 → i < 2 ^ 32 → m < 2 ^ 32 → bit_and (first_bytes p i more) (256 * m) ≡ 256 * bit_and i m
under_id p i more m h k l =
    let a : first_bytes p i more ≡ (more * 2 ^ 32 + i) * 256 + p = omega arith in
    let b : 256 * m ≡ m * 256 + 0 = omega arith in
    let z : m ≡ 0 * 2 ^ 32 + m = sym (zero-add m) in
    let c : bit_and (more * 2 ^ 32 + i) m ≡ bit_and i m = ap (bit_and (more * 2 ^ 32 + i)) z ∙ and_block 32 more 0 i m k l ∙ ap (λ x. x * 2 ^ 32 + bit_and i m) (and_zero_r more) ∙ zero-add (bit_and i m) in
    ap₂ bit_and a b
    ∙ and_block 8 (more * 2 ^ 32 + i) m p 0 h (omega arith)
    ∙ ap₂ (λ x y. x * 256 + y) c (and_zero_r p)
    ∙ omega arith

-- one that has the primary address alone
under_primary : (p i more : ℕ) → p < 256 → bit_and (first_bytes p i more) 255 ≡ p
under_primary p i more h =
    let e : first_bytes p i more % 256 ≡ p = omega arith in
    and_mask (first_bytes p i more) 8 ∙ e

eqb_times : (a b : ℕ) → eqb (256 * a) (256 * b) ≡ eqb a b
eqb_times a b = eqb_as (256 * a) (256 * b) (eqb a b) (λ e. eq-eqb a b (omega arith)) (λ e. let f = eqb-true a b e in omega arith)

-- ---- whom a seeking seeks

pub seeks_as : {f g : ℕ → Bool → ℕ → Bool} {q : Seeking} → ((p : ℕ) (s : Bool) (i : ℕ) → f p s i ≡ g p s i) → Seeks f q → Seeks g q
seeks_as e k = record { are = λ p s i r u v. k.are p s i r u v ∙ e p s i }

pub seeks_every : Seeks (λ p s i. true) (record { selected = false; mask = 0; want = 0 })
unfolding sought_by_value
seeks_every = record { are = λ p s i r u v. ap (λ x. (s && false) || eqb x 0) (and_zero_r (first_bytes p i r)) ∙ go s }
  where
    go : (s : Bool) → ((s && false) || true) ≡ true
    go true = refl
    go false = refl

pub seeks_none : Seeks (λ p s i. false) (record { selected = false; mask = 0; want = 1 })
unfolding sought_by_value
seeks_none = record { are = λ p s i r u v. ap (λ x. (s && false) || eqb x 1) (and_zero_r (first_bytes p i r)) ∙ go s }
  where
    go : (s : Bool) → ((s && false) || false) ≡ false
    go true = refl
    go false = refl

pub seeks_selected : Seeks (λ p s i. s) (record { selected = true; mask = 0; want = 1 })
unfolding sought_by_value
seeks_selected = record { are = λ p s i r u v. ap (λ x. (s && true) || eqb x 1) (and_zero_r (first_bytes p i r)) ∙ go s }
  where
    go : (s : Bool) → ((s && true) || false) ≡ s
    go true = refl
    go false = refl

pub seeks_primary : (a : ℕ) → Seeks (λ p s i. eqb p a) (record { selected = false; mask = 255; want = a })
unfolding sought_by_value
seeks_primary a = record { are = λ p s i r u v. ap (λ x. (s && false) || eqb x a) (under_primary p i r u) ∙ go s (eqb p a) }
  where
    go : (s b : Bool) → ((s && false) || b) ≡ b
    go true b = refl
    go false b = refl

pub seeks_mask : (d : List ℕ) → 8 ≤ length d → ((i : ℕ) → at d i < 256) → (m : ℕ) → m ≡ number 4 0 (known_bytes d) → m < 2 ^ 32
    → Seeks (λ p s i. s || id_matches_value d (digits_of_value i)) (record { selected = true; mask = 256 * m; want = 256 * bit_and (number 4 0 (four d)) m })
unfolding sought_by_value
seeks_mask d h small m e k =
    record {
      are =
          λ p s i r u v.
          ap (λ x. (s && true) || x)
          (ap (λ x. eqb x (256 * bit_and (number 4 0 (four d)) m)) (under_id p i r m u v k)
          ∙ eqb_times (bit_and i m) (bit_and (number 4 0 (four d)) m)
          ∙ ap (λ x. same i (number 4 0 (four d)) x) e
          ∙ mask_same d i v small)
          ∙ go s (alike (nibbles d) (digits_of_value i))
          ∙ ap (λ x. s || (x && alike (nibbles d) (digits_of_value i))) (sym (le-leb 8 (length d) h));
    }
  where
    go : (s b : Bool) → ((s && true) || b) ≡ (s || b)
    go true b = refl
    go false b = refl

-- ---- which of them it is, by the telegram

-- fewer than eight bytes match no id
pub few_none : (d : List ℕ) → length d < 8 → (p : ℕ) (s : Bool) (i : ℕ) → s ≡ (s || id_matches_value d (digits_of_value i))
few_none d h p s i = sym (ap (λ x. s || (x && alike (nibbles d) (digits_of_value i))) (lt-leb 8 (length d) h) ∙ or-false s)

pub reaches_everybody : (a : ℕ) → 253 < a → a < 256 → (p : ℕ) (s : Bool) (i : ℕ) → true ≡ reaches a p s
reaches_everybody a f g p s i = grind arith

pub reaches_other : (a : ℕ) → (a ≡ 0xFF → ⊥) → (a ≡ 0xFE → ⊥) → (a ≡ 0xFD → ⊥) → (p : ℕ) (s : Bool) (i : ℕ) → eqb p a ≡ reaches a p s
reaches_other a f g h p s i = rw (ne_eqb a 0xFE g, ne_eqb a 0xFF f, ne_eqb a 0xFD h)

pub not_select_by_ci : (ci a : ℕ) → (ci ≡ 0x52 → ⊥) → is_select_value ci a ≡ false
not_select_by_ci ci a h = rw (ne_eqb ci 0x52 h)

pub not-select-by-address : (ci a : ℕ) → (a ≡ 0xFD → ⊥) → is_select_value ci a ≡ false
not-select-by-address ci a h = rw (ne_eqb a 0xFD h) (and-false (eqb ci 0x52))

module _ (c a ci : ℕ) (d : List ℕ) where
  pub concerns-select : ci ≡ 0x52 → a ≡ 0xFD → (p : ℕ) (s : Bool) (i : ℕ) → (s || id_matches_value d (digits_of_value i)) ≡ concerns (long c a ci d) p s (digits_of_value i)
  unfolding concerns
  concerns-select e f p s i = rw (eq-eqb ci 0x52 e, eq-eqb a 0xFD f)

  pub concerns_other : is_select_value ci a ≡ false → (p : ℕ) (s : Bool) (i : ℕ) → reaches a p s ≡ concerns (long c a ci d) p s (digits_of_value i)
  unfolding concerns
  concerns_other e p s i = ap (λ b. if b then s || id_matches_value d (digits_of_value i) else reaches a p s) (sym e)
