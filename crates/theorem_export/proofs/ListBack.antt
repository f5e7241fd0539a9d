-- The list of sound meters with primaries up to 250 opens to meters that agree with them.
use mathlib.Core.Path.{◌≡◌, refl, ◌∙◌}
use mathlib.Core.Bool.{Bool, true, false, ◌||◌}
use mathlib.Core.List.{List, [], ◌∷◌, map}
use Prim.Native.Nat.{ℕ, ◌≤◌, ◌<◌}
use native.Mathlib.Omega.{arith}
use lib.Dec.{ltb}
use lib.ListN.{length, length-map}
use Rattle.laws.specs.Words.{Every, Bytes}
use Rattle.laws.proofs.Lists.{every_map, every_image}
use Rattle.meter.specs.PlainMeter.{PlainMeter}
use Rattle.meter.specs.Meter.{rates}
use Rattle.list.specs.Written.{write_records_value, write_list_value, InLayout}
use Rattle.list_check.specs.Tables.{is_rate_value}
use Rattle.list_check.specs.Check.{all_pass_value}
use Rattle.list_meter.specs.Fresh.{fresh}
use Rattle.list_open.specs.Opening.{capacity, opens, open_list_value}
use Rattle.list_open.proofs.OpeningLaws.{records_opened}
use Rattle.list_open.proofs.WriteLaws.{list_back}
use Rattle.list_write.specs.Record.{record_for}
use Rattle.segment_export.specs.Export.{any_above250}
use Rattle.theorem_as_left.specs.Left.{SoundMeter}
use Rattle.theorem_export.specs.Theorems.{AllAgree}
use Rattle.theorem_export.proofs.RecordBack.{record_passes, record_back}
use Rattle.theorem_export.proofs.ListLength.{in_layout, records_fit, list_bytes}

-- a meter that a list can have
pub record Listable (m : PlainMeter) : Type 0 where
  pub sound : SoundMeter m
  pub low : ltb 250 m.primary ≡ false

or_l : (a b : Bool) → a || b ≡ false → a ≡ false
or_l true b e = e
or_l false b e = refl

or_r : (a b : Bool) → a || b ≡ false → b ≡ false
or_r true b e = let z : ◌≡◌ {A = ℕ} 0 1 = cc in absurd (omega arith)
or_r false b e = e

pub all_listable : (ms : List PlainMeter) → Every SoundMeter ms → any_above250 ms ≡ false → Every Listable ms
all_listable [] h low = tt
all_listable (m ∷ ms) h low =
    (record { sound = h.0; low = or_l (ltb 250 m.primary) (any_above250 ms) low }, all_listable ms h.1 (or_r (ltb 250 m.primary) (any_above250 ms) low))

module _ (bus : ℕ) where
  all_pass : (ms : List PlainMeter) → Every Listable ms → all_pass_value (map (record_for bus) ms) ≡ true
  all_pass [] h = refl
  all_pass (m ∷ ms) h = rw (record_passes bus m h.0.sound h.0.low, all_pass ms h.1)

  all_in_layout : (ms : List PlainMeter) → Every Listable ms → Every InLayout (map (record_for bus) ms)
  all_in_layout ms h = every_image InLayout (record_for bus) ms (every_map (λ m l. in_layout bus m l.sound l.low) ms h)

  fits : (ms : List PlainMeter) → length ms ≤ capacity → Every Listable ms → length (write_records_value (map (record_for bus) ms)) < 0x10000
  fits ms few h = records_fit bus ms few (every_map (λ m l. l.sound) ms h)

  pub bytes_each : (ms : List PlainMeter) → length ms ≤ capacity → Every Listable ms → Bytes (write_list_value (map (record_for bus) ms))
  bytes_each ms few h = list_bytes (map (record_for bus) ms) (all_in_layout ms h) (fits ms few h)

  -- the meters that the list opens to
  abbrev pub again : Bool → List PlainMeter → List PlainMeter
  again practice ms = map (fresh bus practice) (map (record_for bus) ms)

  pub again_agree : (practice : Bool) (ms : List PlainMeter) → Every Listable ms → AllAgree (again practice ms) ms
  again_agree practice [] h = tt
  again_agree practice (m ∷ ms) h = (record_back bus m h.0.sound practice, again_agree practice ms h.1)

  pub list_opens : (practice : Bool) (ms : List PlainMeter) → is_rate_value rates bus ≡ true → length ms ≤ capacity → Every Listable ms
      → open_list_value (write_list_value (map (record_for bus) ms)) bus practice ≡ opens (again practice ms)
  list_opens practice ms rate few h =
      let as-few : length (map (record_for bus) ms) ≤ capacity = rw length-map few in
      list_back (map (record_for bus) ms) bus practice (all_in_layout ms h) (fits ms few h)
      ∙ records_opened bus practice (map (record_for bus) ms) as-few (all_pass ms h) rate
