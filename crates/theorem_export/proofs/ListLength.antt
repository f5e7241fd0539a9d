-- The record of a sound meter fits the list's layout, and the list of as many as a segment can have fits its length. All of
-- it is bytes.
use mathlib.Core.Path.{◌≡◌}
use mathlib.Core.Bool.{false}
use mathlib.Core.List.{List, [], ◌∷◌, map}
use Prim.Native.Nat.{ℕ, ◌≤◌, ◌<◌}
use native.Mathlib.Omega.{arith}
use lib.Dec.{ltb}
use lib.ListN.{length, take}
use borrow.Author.Tests.{ltb-false}
use Rattle.laws.specs.Words.{Every, Bytes}
use Rattle.laws.proofs.Lists.{every_append, every_map}
use Rattle.meter.specs.PlainMeter.{PlainMeter}
use Rattle.list.specs.Layout.{Listed}
use Rattle.list.specs.Written.{write_texts, write_rest, write_records_value, write_list_value, InLayout}
use Rattle.list_open.specs.Opening.{capacity}
use Rattle.list_open.proofs.OpeningLaws.{capacity-is}
use Rattle.list_write.specs.Record.{record_for}
use Rattle.list_write.proofs.KeyLaws.{medium_short, fault_short}
use Rattle.list_write.proofs.LetterLaws.{letters_few}
use Rattle.list_write.proofs.LengthLaws.{id_long, rest_short, records_short}
use Rattle.theorem_as_left.specs.Left.{SoundMeter}
use Rattle.theorem_export.proofs.PartsBack.{medium_back, fault_back, id_bytes_lem, maker_back, baud_back}

texts_bytes : (ts : List (List ℕ)) → Every (λ t. length t < 256) ts → Every Bytes ts → Bytes (write_texts ts)
unfolding write_texts
texts_bytes [] h k = tt
texts_bytes (t ∷ ts) h k = (h.0, every_append (λ b. b < 256) t (write_texts ts) k.0 (texts_bytes ts h.1 k.1))

module _ (bus : ℕ) (m : PlainMeter) (sound : SoundMeter m) (low : ltb 250 m.primary ≡ false) where
  rest_bytes : Bytes (write_rest (record_for bus m))
  unfolding write_rest record_for
  rest_bytes =
      let r = record_for bus m in
      let ts = r.id ∷ r.manufacturer ∷ r.medium ∷ r.fault ∷ [] in
      let k = maker_back m sound.maker in
      let d = medium_back m sound.medium in
      let f = fault_back m.fault in
      let i = id_long m.digits sound.eight in
      let a = letters_few m.manufacturer m.medium m.model in
      let b = medium_short m.medium m.model in
      let c = fault_short m.fault in
      let p = ltb-false 250 m.primary low in
      let v = sound.version in
      every_append (λ b. b < 256) (take 6 (write_rest r)) (write_texts ts) (omega arith)
      (texts_bytes ts (omega arith) (id_bytes_lem m.digits sound.decimals, (k.bytes, (d.bytes, (f.bytes, tt)))))

  pub in_layout : InLayout (record_for bus m)
  unfolding record_for
  in_layout =
      record {
        baud = omega (arith, (baud_back bus m.baud sound.baud).small);
        rest = omega (arith, rest_short bus m sound.eight);
        bytes = rest_bytes;
      }

-- as many records as a segment has meters
pub records_fit : (bus : ℕ) (ms : List PlainMeter) → length ms ≤ capacity → Every SoundMeter ms → length (write_records_value (map (record_for bus) ms)) < 0x10000
records_fit bus ms few h = omega (arith, records_short bus ms (every_map (λ m s. s.eight) ms h), capacity-is)

records_bytes : (rs : List Listed) → Every InLayout rs → Bytes (write_records_value rs)
unfolding write_records_value
records_bytes [] h = tt
records_bytes (r ∷ rs) h = (h.0.rest, every_append (λ b. b < 256) (write_rest r) (write_records_value rs) h.0.bytes (records_bytes rs h.1))

pub list_bytes : (rs : List Listed) → Every InLayout rs → length (write_records_value rs) < 0x10000 → Bytes (write_list_value rs)
unfolding write_list_value
list_bytes rs h few = (omega arith, (omega arith, (omega arith, records_bytes rs h)))
