-- The fresh meter of a record that passes is sound.
use Rattle.std.specs.Prelude.{if◌then◌else◌}
use mathlib.Core.Path.{◌≡◌, refl, sym, ap, ◌∙◌}
use mathlib.Core.Bool.{Bool, true, false, ◌&&◌, ◌||◌, not}
use mathlib.Core.List.{List, [], ◌∷◌}
use Prim.Native.Nat.{ℕ, ◌<◌}
use native.Mathlib.Omega.{arith}
use lib.Dec.{eqb, ltb}
use borrow.Author.Tests.{eqb-true}
use lib.ListN.{length}
use Rattle.laws.specs.Words.{same_list}
use Rattle.laws.proofs.Lists.{if_all, and_l, and_r}
use Rattle.meter_identity.specs.Identity.{manufacturer_code_value}
use Rattle.meter.specs.PlainMeter.{PlainMeter}
use Rattle.meter.specs.Meter.{rates}
use Rattle.list.specs.Layout.{Listed}
use Rattle.list_check.specs.Tables.{Medium, media, medium_heat_old, faults, is_medium_value, is_fault, is_rate_value, medium_of}
use Rattle.list_check.specs.Check.{all_within_value, good_id_value, good_manufacturer_value, check}
use Rattle.list_meter.specs.Fresh.{other_than_bus_value, own_baud_value, fresh}
use Rattle.list_meter.proofs.IdLaws.{good_id_digits, check_id}
use Rattle.search_walk.proofs.Once.{same_eq}
use Rattle.theorem_as_left.specs.Left.{MakerPasses, named, unnamed, InMedia, first, later, SoundMeter}

-- ---- what a record that passes has to be, besides its id

record Passing (r : Listed) : Type 0 where
  maker : good_manufacturer_value r.manufacturer r.medium ≡ true
  medium : is_medium_value media r.medium ≡ true
  baud : eqb r.baud 0 || is_rate_value rates r.baud ≡ true

check_passing : (r : Listed) → check r ≡ 0 → Passing r
unfolding check
check_passing r = go (ltb 250 r.primary) (good_id_value r.id) _ refl _ refl _ refl (is_fault faults r.fault)
  where
    go : (a b c : Bool) → good_manufacturer_value r.manufacturer r.medium ≡ c → (d : Bool) → is_medium_value media r.medium ≡ d → (e : Bool) → (eqb r.baud 0 || is_rate_value rates r.baud) ≡ e → (f : Bool)
        → ◌≡◌ {A = ℕ} (if a then 4 else (if not b then 5 else (if not c then 6 else (if not d then 7 else (if not e then 8 else (if not f then 9 else 0)))))) 0 → Passing r
    go true b c ec d ed e ee f h = absurd (omega arith)
    go false false c ec d ed e ee f h = absurd (omega arith)
    go false true false ec d ed e ee f h = absurd (omega arith)
    go false true true ec false ed e ee f h = absurd (omega arith)
    go false true true ec true ed false ee f h = absurd (omega arith)
    go false true true ec true ed true ee f h = record { maker = ec; medium = ed; baud = ee }

-- ---- the medium: the row of its key

measures : (m : PlainMeter) (rs : List Medium) (t : List ℕ) → is_medium_value rs t ≡ true → m.medium ≡ (medium_of rs t).code → m.model ≡ (medium_of rs t).model → InMedia m rs
measures m [] t h p q = let z : ◌≡◌ {A = ℕ} 0 1 = cc in absurd (omega arith)
measures m (r ∷ rs) t h p q = go (same_list r.key t) (measures m rs t) h p q
  where
    go : (b : Bool) → (is_medium_value rs t ≡ true → m.medium ≡ (medium_of rs t).code → m.model ≡ (medium_of rs t).model → InMedia m rs)
        → b || is_medium_value rs t ≡ true → m.medium ≡ (if b then r else medium_of rs t).code → m.model ≡ (if b then r else medium_of rs t).model → InMedia m (r ∷ rs)
    go true ih h p q = first p q
    go false ih h p q = later (ih h p q)

-- ---- the manufacturer: three capitals, or none for heat_old

empty_code : (t : List ℕ) → length t ≡ 0 → manufacturer_code_value t ≡ 0
unfolding manufacturer_code_value
empty_code [] h = refl
empty_code (c ∷ t) h = absurd (omega arith)

heat_old_row : medium_of media medium_heat_old.key ≡ medium_heat_old
unfolding media
heat_old_row = refl

module _ (m : PlainMeter) (t medium : List ℕ) (p : m.manufacturer ≡ manufacturer_code_value t) (q : m.medium ≡ (medium_of media medium).code) (r : m.model ≡ (medium_of media medium).model) where
  capitals : eqb (length t) 3 && all_within_value 0x41 0x5A t ≡ true → MakerPasses m
  capitals h = named t (eqb-true (length t) 3 (and_l (eqb (length t) 3) (all_within_value 0x41 0x5A t) h)) (and_r (eqb (length t) 3) (all_within_value 0x41 0x5A t) h) p

  no_text : eqb (length t) 0 && same_list medium_heat_old.key medium ≡ true → MakerPasses m
  no_text h =
      let none = eqb-true (length t) 0 (and_l (eqb (length t) 0) (same_list medium_heat_old.key medium) h) in
      let key = same_eq medium_heat_old.key medium (and_r (eqb (length t) 0) (same_list medium_heat_old.key medium) h) in
      let row = ap (medium_of media) (sym key) ∙ heat_old_row in
      unnamed (p ∙ empty_code t none) (q ∙ ap (λ (x : Medium). x.code) row) (r ∙ ap (λ (x : Medium). x.model) row)

  made_by : good_manufacturer_value t medium ≡ true → MakerPasses m
  unfolding good_manufacturer_value
  made_by = go (eqb (length t) 3 && all_within_value 0x41 0x5A t) refl
    where
      go : (b : Bool) → (eqb (length t) 3 && all_within_value 0x41 0x5A t) ≡ b → b || (eqb (length t) 0 && same_list medium_heat_old.key medium) ≡ true → MakerPasses m
      go true e h = capitals e
      go false e h = no_text h

-- ---- the baud: the bus's, 2400 or its own

module _ (bus : ℕ) (practice : Bool) (rate : is_rate_value rates bus ≡ true) where
  other_rate : (own : ℕ) → is_rate_value rates own ≡ true → is_rate_value rates (other_than_bus_value bus practice own) ≡ true
  unfolding other_than_bus_value rates
  other_rate own h = if_all (λ (b : ℕ). is_rate_value rates b ≡ true) (practice && eqb own bus) 2400 own refl h

  own_rate : (own : ℕ) → eqb own 0 || is_rate_value rates own ≡ true → is_rate_value rates (own_baud_value bus practice own) ≡ true
  unfolding own_baud_value
  own_rate own = go (eqb own 0)
    where
      go : (b : Bool) → b || is_rate_value rates own ≡ true → is_rate_value rates (if b then bus else other_than_bus_value bus practice own) ≡ true
      go true h = rate
      go false h = other_rate own h

  -- ---- the whole meter

  pub fresh_sound : (r : Listed) → r.version < 256 → check r ≡ 0 → SoundMeter (fresh bus practice r)
  unfolding fresh
  fresh_sound r v h =
      let id = good_id_digits r.id (check_id r h) in
      let p = check_passing r h in
      record {
        eight = id.0;
        decimals = id.1;
        maker = made_by (fresh bus practice r) r.manufacturer r.medium refl refl refl p.maker;
        version = v;
        medium = measures (fresh bus practice r) media r.medium p.medium refl refl;
        baud = own_rate r.baud p.baud;
      }
