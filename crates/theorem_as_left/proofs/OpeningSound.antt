-- An accepted opening gives a sound segment: the list's bytes are bytes, so every version is one.
use Rattle.std.specs.Prelude.{if◌then◌else◌}
use mathlib.Core.Path.{◌≡◌, refl, subst}
use mathlib.Core.Bool.{Bool, true, false, ◌&&◌, ◌||◌, not}
use mathlib.Core.List.{List, [], ◌∷◌, map}
use Prim.Native.Nat.{ℕ, zero, suc, ◌-◌, ◌+◌, ◌*◌, ◌≤◌, ◌<◌}
use native.Mathlib.Omega.{arith}
use lib.Dec.{eqb, leb, ltb}
use lib.Ieee.{Float}
use borrow.Author.Tests.{eqb-true, ltb-false}
use lib.ListN.{length, take, drop, length-map}
use Rattle.laws.specs.Words.{at, Every, Bytes}
use Rattle.laws.proofs.Lists.{if_all, every_take, and_l, and_r}
use Rattle.frame.proofs.Worked.{of_nothing}
use Rattle.meter.specs.PlainMeter.{PlainMeter}
use Rattle.meter.specs.Meter.{rates}
use Rattle.list.specs.Layout.{Listed, Texts, texts, no_texts, Layout, fits, no_fit, made, read_texts, read_records}
use Rattle.list_check.specs.Tables.{is_rate_value}
use Rattle.list_check.specs.Check.{check, all_pass_value}
use Rattle.list_meter.specs.Fresh.{fresh}
use Rattle.list_open.specs.Opening.{capacity, Opened, opens, refuses, first_failing, open_records, open_list_value}
use Rattle.list_open.proofs.FirstLaws.{first_number}
use Rattle.segment.specs.Plain.{Plain}
use Rattle.segment.specs.Calls.{after_opening}
use Rattle.segment_send.proofs.SendLaws.{bytes_drop}
use Rattle.theorem_as_left.specs.Left.{SoundMeter, Sound}
use Rattle.theorem_as_left.proofs.FreshSound.{fresh_sound}

-- ---- the version of every record is a byte

abbrev ByteVersion : Listed → Type 0
ByteVersion r = r.version < 256

abbrev ByteVersions : Layout → Type 0
ByteVersions (fits rs) = Every ByteVersion rs
ByteVersions no_fit = Unit {0}

byte_at : (i : ℕ) (bs : List ℕ) → Bytes bs → at bs i < 256
byte_at i [] h = omega arith
byte_at zero (b ∷ bs) h = h.0
byte_at (suc i) (b ∷ bs) h = byte_at i bs h.1

made_versions : (bs : List ℕ) (t : Texts) (more : Layout) → at bs 1 < 256 → ByteVersions more → ByteVersions (made bs t more)
made_versions bs no_texts more h g = tt
made_versions bs (texts ts) no_fit h g = tt
made_versions bs (texts ts) (fits rs) h g = (h, g)

read_versions : (n : ℕ) (bs : List ℕ) → Bytes bs → ByteVersions (read_records n bs)
unfolding read_records
read_versions zero [] h = tt
read_versions zero (l ∷ bs) h = tt
read_versions (suc n) [] h = tt
read_versions (suc n) (l ∷ bs) h =
    if_all ByteVersions (leb 6 l && leb l (length bs)) _ no_fit
    (made_versions (take l bs) (read_texts 4 (drop 6 (take l bs))) (read_records n (drop l bs)) (byte_at 1 (take l bs) (every_take (λ b. b < 256) l bs h.1))
    (read_versions n (drop l bs) (bytes_drop l bs h.1))) tt

-- ---- an opening

-- a sound segment's bus baud and its meters
pub record SoundAt (bus : ℕ) (ms : List PlainMeter) : Type 0 where
  pub baud : is_rate_value rates bus ≡ true
  pub few : length ms ≤ capacity
  pub meters : Every SoundMeter ms

abbrev OpensSound : ℕ → Opened → Type 0
OpensSound bus (opens ms) = SoundAt bus ms
OpensSound bus (refuses number index) = Unit {0}

module _ (bus : ℕ) (practice : Bool) where
  pass_sound : is_rate_value rates bus ≡ true → (rs : List Listed) → Every ByteVersion rs → all_pass_value rs ≡ true → Every SoundMeter (map (fresh bus practice) rs)
  pass_sound b [] v h = tt
  pass_sound b (r ∷ rs) v h =
      (fresh_sound bus practice b r v.0 (eqb-true (check r) 0 (and_l (eqb (check r) 0) (all_pass_value rs) h)), pass_sound b rs v.1 (and_r (eqb (check r) 0) (all_pass_value rs) h))

  records_sound : (l : Layout) → ByteVersions l → OpensSound bus (open_records bus practice l)
  unfolding open_records
  records_sound no_fit v = tt
  records_sound (fits rs) v = go (ltb capacity (length rs)) refl (all_pass_value rs) refl (is_rate_value rates bus) refl
    where
      go : (a : Bool) → ltb capacity (length rs) ≡ a → (b : Bool) → all_pass_value rs ≡ b → (c : Bool) → is_rate_value rates bus ≡ c
          → OpensSound bus (if a then refuses 3 0 else (if not b then refuses (first_number rs) (first_failing rs) else (if not c then refuses 10 0 else opens (map (fresh bus practice) rs))))
      go true e b f c g = tt
      go false e false f c g = tt
      go false e true f false g = tt
      go false e true f true g =
          record { baud = g; few = omega (arith, ltb-false capacity (length rs) e, length-map rs (fresh bus practice)); meters = pass_sound g rs v f }

  list_sound : (bs : List ℕ) → Bytes bs → OpensSound bus (open_list_value bs bus practice)
  unfolding open_list_value
  list_sound bs h =
      if_all (OpensSound bus) (ltb (length bs) 3 || not (eqb (at bs 0) 1)) _ _ tt
      (if_all (OpensSound bus) (not (eqb (at bs 1 * 256 + at bs 2) (length bs - 3))) _ _ tt (records_sound (read_records (length bs) (drop 3 bs)) (read_versions (length bs) (drop 3 bs) (bytes_drop 3 bs h))))

  -- a refused one leaves the former segment in use
  pub opening_sound : (list : List ℕ) (origin : Float) (s : Plain) → Bytes list → Sound s → Sound (after_opening list bus practice origin s)
  unfolding after_opening
  opening_sound list origin s b h = go (open_list_value list bus practice) refl (list_sound list b)
    where
      go : (r : Opened) → open_list_value list bus practice ≡ r → OpensSound bus (open_list_value list bus practice) → Sound (after_opening list bus practice origin s)
      go (opens ms) e o =
          let g : SoundAt bus ms = subst (OpensSound bus) e o in
          rw (e, after_opening) (record { baud = g.baud; waits = (1, of_nothing); queued = omega arith; few = g.few; meters = g.meters })
      go (refuses number index) e o = rw (e, after_opening) h
