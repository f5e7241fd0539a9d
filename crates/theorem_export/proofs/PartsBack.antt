-- The parts of a sound meter's record pass, and give the meter's parts back. The characters of its texts are bytes.
use mathlib.Core.Path.{◌≡◌, refl, sym, ap₂, ◌∙◌}
use mathlib.Core.Bool.{Bool, true, false, ◌||◌}
use mathlib.Core.List.{List, [], ◌∷◌}
use Prim.Native.Nat.{ℕ, ◌+◌, ◌-◌, ◌*◌, ◌/◌, ◌%◌, ◌<◌}
use native.Mathlib.Omega.{arith}
use lib.Dec.{eqb, leb}
use lib.ListN.{length, length-map}
use borrow.Author.Tests.{leb-true, le-leb, lt-leb, eqb-true, eq-eqb, ne_eqb}
use Rattle.laws.specs.Words.{within, Every, Bytes}
use Rattle.laws.proofs.Lists.{if_with, and_l, and_r, every_map, every_image}
use Rattle.meter_identity.specs.Identity.{capital, manufacturer_code_value}
use Rattle.meter_identity.proofs.IdentityLaws.{code_three}
use Rattle.meter.specs.PlainMeter.{PlainMeter}
use Rattle.meter.specs.declared.Fault.{Fault}
use Rattle.meter.specs.declared.Fault.TheVariants.{None, Checksum, Truncated, Busy, WrongAddress, Flaky, TooMany}
use Rattle.meter.specs.declared.Model.{Model}
use Rattle.meter.specs.Meter.{rates}
use Rattle.list_check.specs.Tables.{Medium, media, faults, is_medium_value, is_fault, is_rate_value, medium_of, fault_of, medium_heat_old}
use Rattle.list_check.specs.Check.{all_within_value, text_digits, good_id_value, good_manufacturer_value}
use Rattle.list_check.proofs.CheckLaws.{manufacturer_three}
use Rattle.list_meter.specs.Fresh.{own_baud_value, other_than_bus_value}
use Rattle.list_write.specs.Record.{listed_baud, digit_text, capitals, manufacturer_text, medium_text, fault_text}
use Rattle.theorem_as_left.specs.Left.{MakerPasses, InMedia, named, unnamed, first, later}

-- ---- medium

-- the text of a code and a model is a key of MEDIA, and its row has this code and this model
pub record MediumBack (code : ℕ) (model : Model) : Type 0 where
  pub key : is_medium_value media (medium_text media code model) ≡ true
  pub code_back : (medium_of media (medium_text media code model)).code ≡ code
  pub model_back : (medium_of media (medium_text media code model)).model ≡ model
  pub bytes : Bytes (medium_text media code model)

-- what holds of every row holds of the meter's code and model
of_row : (P : ℕ → Model → Type 0) (m : PlainMeter) {rs : List Medium} → Every (λ r. P r.code r.model) rs → InMedia m rs → P m.medium m.model
of_row P m h (first p q) = rw (p, q) h.0
of_row P m h (later r) = of_row P m h.1 r

-- each row is tried
pub medium_back : (m : PlainMeter) → InMedia m media → MediumBack m.medium m.model
unfolding media
medium_back m r = of_row MediumBack m (search arith) r

-- the text of a meter whose manufacturer may be empty
heat_old_text : (m : PlainMeter) → m.medium ≡ medium_heat_old.code → m.model ≡ medium_heat_old.model → medium_text media m.medium m.model ≡ medium_heat_old.key
unfolding media
heat_old_text m p q = rw (p, q)

-- ---- fault

-- the text of a fault is a key of FAULTS, and its row has this fault
pub record FaultBack (f : Fault) : Type 0 where
  pub key : is_fault faults (fault_text f) ≡ true
  pub back : fault_of faults (fault_text f) ≡ f
  pub bytes : Bytes (fault_text f)

pub fault_back : (f : Fault) → FaultBack f
unfolding faults
fault_back None = search arith
fault_back Checksum = search arith
fault_back Truncated = search arith
fault_back Busy = search arith
fault_back WrongAddress = search arith
fault_back Flaky = search arith
fault_back TooMany = search arith

-- ---- id

pub id_back : (ds : List ℕ) → text_digits (digit_text ds) ≡ ds
id_back [] = refl
id_back (d ∷ ds) = ap₂ (λ x xs. x ∷ xs) (omega arith) (id_back ds)

id_within : (ds : List ℕ) → Every (λ d. d < 10) ds → all_within_value 0x30 0x39 (digit_text ds) ≡ true
id_within [] h = refl
id_within (d ∷ ds) h = rw (le-leb 0x30 (0x30 + d) (omega arith), le-leb (0x30 + d) 0x39 (omega arith), id_within ds h.1)

pub id_good : (ds : List ℕ) → length ds ≡ 8 → Every (λ d. d < 10) ds → good_id_value (digit_text ds) ≡ true
unfolding good_id_value
id_good ds l h = rw (eq-eqb (length (digit_text ds)) 8 (length-map ds (λ d. 0x30 + d) ∙ l), id_within ds h)

pub id_bytes_lem : (ds : List ℕ) → Every (λ d. d < 10) ds → Bytes (digit_text ds)
id_bytes_lem ds h = every_image (λ b. b < 256) (λ d. 0x30 + d) ds (every_map (λ d k. omega arith) ds h)

-- ---- manufacturer

-- a text of a manufacturer passes beside this text of a medium, and has this code
pub record MakerBack (t : List ℕ) (code : ℕ) (medium : List ℕ) : Type 0 where
  pub good : good_manufacturer_value t medium ≡ true
  pub back : manufacturer_code_value t ≡ code
  pub bytes : Bytes t

-- five bits of a capital letter tell it, and are not 0
abbrev five : ℕ → ℕ
five l = (capital l - 0x40) % 32

five_back : (l : ℕ) → within 0x41 0x5A l ≡ true → (0x40 + five l ≡ l) × (0 < five l)
five_back l h =
    let low = leb-true 0x41 l (and_l (leb 0x41 l) (leb l 0x5A) h) in
    let high = leb-true l 0x5A (and_r (leb 0x41 l) (leb l 0x5A) h) in
    rw (lt-leb 0x61 l (omega arith)) (omega arith, omega arith)

-- three of them, taken out of the code again
joined : (x y z code : ℕ) → x < 32 → y < 32 → z < 32 → (x * 32 + y) * 32 + z ≡ code → (code / 1024 % 32 ≡ x) × (code / 32 % 32 ≡ y) × (code % 32 ≡ z)
joined x y z code h k l e = omega arith

-- three capital letters: those of their code, which is not 0
record Letters (t : List ℕ) : Type 0 where
  pub letters : capitals (manufacturer_code_value t) ≡ t
  pub some : 0 < manufacturer_code_value t

capitals_back : (t : List ℕ) → length t ≡ 3 → all_within_value 0x41 0x5A t ≡ true → Letters t
unfolding capitals
capitals_back [] l h = absurd (omega arith)
capitals_back (a ∷ []) l h = absurd (omega arith)
capitals_back (a ∷ b ∷ []) l h = absurd (omega arith)
capitals_back (a ∷ b ∷ c ∷ d ∷ t) l h = absurd (omega arith)
capitals_back (a ∷ b ∷ c ∷ []) l h =
    let p = five_back a (and_l (within 0x41 0x5A a) (all_within_value 0x41 0x5A (b ∷ c ∷ [])) h) in
    let more = and_r (within 0x41 0x5A a) (all_within_value 0x41 0x5A (b ∷ c ∷ [])) h in
    let q = five_back b (and_l (within 0x41 0x5A b) (all_within_value 0x41 0x5A (c ∷ [])) more) in
    let r = five_back c (and_l (within 0x41 0x5A c) true (and_r (within 0x41 0x5A b) (all_within_value 0x41 0x5A (c ∷ [])) more)) in
    let e = code_three (a ∷ b ∷ c ∷ []) refl refl refl (omega arith) in
    let j = joined (five a) (five b) (five c) (manufacturer_code_value (a ∷ b ∷ c ∷ [])) (omega arith) (omega arith) (omega arith) e in
    record { letters = rw (j.0, j.1, j.2, p.0, q.0, r.0); some = omega arith }

within_bytes : (t : List ℕ) → all_within_value 0x41 0x5A t ≡ true → Bytes t
within_bytes [] h = tt
within_bytes (l ∷ t) h =
    let here = and_l (within 0x41 0x5A l) (all_within_value 0x41 0x5A t) h in
    (omega (arith, leb-true l 0x5A (and_r (leb 0x41 l) (leb l 0x5A) here)), within_bytes t (and_r (within 0x41 0x5A l) (all_within_value 0x41 0x5A t) h))

-- the code is not 0, so the text is not the empty one
named_text : (t : List ℕ) (medium : ℕ) (model : Model) → Letters t → manufacturer_text (manufacturer_code_value t) medium model ≡ t
unfolding manufacturer_text
named_text t medium model k = rw (ne_eqb (manufacturer_code_value t) 0 (λ e. omega arith)) k.letters

unnamed_text : (m : PlainMeter) → m.manufacturer ≡ 0 → m.medium ≡ medium_heat_old.code → m.model ≡ medium_heat_old.model → manufacturer_text m.manufacturer m.medium m.model ≡ []
unfolding manufacturer_text
unnamed_text m e p q = rw (e, p, q)

no_maker : MakerBack [] 0 medium_heat_old.key
unfolding good_manufacturer_value manufacturer_code_value
no_maker = search arith

pub maker_back : (m : PlainMeter) → MakerPasses m → MakerBack (manufacturer_text m.manufacturer m.medium m.model) m.manufacturer (medium_text media m.medium m.model)
maker_back m (named t l w e) =
    rw (e, named_text t m.medium m.model (capitals_back t l w))
    (record { good = sym (manufacturer_three t (medium_text media m.medium m.model) l (sym w)); back = refl; bytes = within_bytes t w })
maker_back m (unnamed e p q) = rw (unnamed_text m e p q, e, heat_old_text m p q) no_maker

-- ---- own baud

-- a rate is not 0, and has two bytes
record Rate (b : ℕ) : Type 0 where
  pub some : 0 < b
  pub small : b < 0x10000

rate_among : (rs : List ℕ) (b : ℕ) → Every Rate rs → is_rate_value rs b ≡ true → Rate b
rate_among [] b h e = let z : ◌≡◌ {A = ℕ} 0 1 = cc in absurd (omega arith)
rate_among (r ∷ rs) b h e = go (eqb r b) refl (rate_among rs b h.1) e
  where
    go : (t : Bool) → eqb r b ≡ t → (is_rate_value rs b ≡ true → Rate b) → t || is_rate_value rs b ≡ true → Rate b
    go true q k e = rw (← eqb-true r b q) h.0
    go false q k e = k e

rate_is : (b : ℕ) → is_rate_value rates b ≡ true → Rate b
unfolding rates
rate_is b e = rate_among rates b (search arith) e

-- an own baud passes, and gives this baud at this bus baud, with the practice flag too: where it is not 0, it is not the
-- bus baud
pub record BaudBack (bus baud own : ℕ) : Type 0 where
  pub good : eqb own 0 || is_rate_value rates own ≡ true
  pub back : (practice : Bool) → own_baud_value bus practice own ≡ baud
  pub small : own < 0x10000

pub baud_back : (bus baud : ℕ) → is_rate_value rates baud ≡ true → BaudBack bus baud (listed_baud bus baud)
unfolding own_baud_value other_than_bus_value listed_baud
baud_back bus baud e =
    let r = rate_is baud e in
    let no : eqb baud 0 ≡ false = ne_eqb baud 0 (λ z. omega arith) in
    if_with (BaudBack bus baud) (eqb baud bus) 0 baud
    (λ q. record { good = refl; back = λ practice. sym (eqb-true baud bus q); small = omega arith })
    (λ q. record { good = rw (no, e); back = other no q; small = r.small })
  where
    other : eqb baud 0 ≡ false → eqb baud bus ≡ false → (practice : Bool) → own_baud_value bus practice baud ≡ baud
    other z q true = rw (z, q)
    other z q false = rw z
