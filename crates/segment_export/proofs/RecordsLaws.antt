-- The loop that writes the records, one behind the other.
use mathlib.Core.Path.{◌≡◌, sym, ap, ap₂, ◌∙◌}
use mathlib.Core.List.{List, [], ◌∷◌, ◌++◌, map, append-nil, append_assoc, map-append}
use Prim.Native.Nat.{ℕ, ◌+◌, ◌*◌, ◌≤◌, ◌<◌, zero-le}
use native.Mathlib.Numerals.{add-one}
use native.Mathlib.Omega.{arith}
use lib.ListN.{length, take, length-append}
use lib.Seq.{take-suc, take-length}
use Rattle.meter.specs.PlainMeter.{PlainMeter}
use Rattle.meter.specs.declared.Meter.{Meter}
use Rattle.meter.specs.View.{plain_meter}
use Rattle.list.specs.Layout.{Listed}
use Rattle.list.specs.Written.{write_rest, write_records_value}
use Rattle.list_open.specs.Opening.{most_meters}
use Rattle.list_write.specs.Record.{record_for}
use Rattle.list_write.specs.ProgramRecord.{counted, Appends, room, none}
use Rattle.segment.specs.Plain.{Plain}
use Rattle.segment_image.specs.Image.{decode_image}
use Rattle.segment_places.specs.ProgramBecomes.{meter_in}
use Rattle.segment_places.proofs.PlaceLaws.{meter-at, meters_few}
use Rattle.segment_export.specs.ProgramExport.{records_of_value, AppendsRecord, RecordsWritten}

records_append : (rs : List Listed) (r : Listed) → write_records_value (rs ++ r ∷ []) ≡ write_records_value rs ++ counted (write_rest r)
unfolding write_records_value
records_append [] r = append-nil (counted (write_rest r))
records_append (q ∷ rs) r = ap (λ (x : List ℕ). counted (write_rest q) ++ x) (records_append rs r) ∙ sym (append_assoc (counted (write_rest q)) (write_records_value rs) (counted (write_rest r)))

-- the records of the first i meters
abbrev first_records : Plain → ℕ → List ℕ
first_records s i = write_records_value (map (record_for s.baud) (take i s.meters))

-- the records of the first i meters of the image l
pub record Writing (l : List ℕ) (i : ℕ) (bs : List ℕ) : Type 0 where
  pub few : i ≤ length (decode_image l).meters
  pub short : length bs ≤ 46 * i
  pub is : bs ≡ first_records (decode_image l) i

pub writing_none : (l : List ℕ) {bs : List ℕ} → bs ≡ [] → Writing l 0 bs
unfolding write_records_value
writing_none l e = record { few = zero-le; short = rw e (omega arith); is = e }

module _ {l bs : List ℕ} {i : ℕ} (s : Writing l i bs) where
  -- the meter i comes next
  next_record : (m : Meter) → i < length (decode_image l).meters → plain_meter m ≡ meter_in i l → first_records (decode_image l) (i + 1) ≡ first_records (decode_image l) i ++ counted (write_rest (record_for (decode_image l).baud (plain_meter m)))
  next_record m h e =
      let f = record_for (decode_image l).baud in
      let ms = (decode_image l).meters in
      let t : take (i + 1) ms ≡ take i ms ++ plain_meter m ∷ [] =
      ap (λ k. take k ms) (add-one i) ∙ take-suc ms i (meter_in i l) h ∙ ap (λ (x : PlainMeter). take i ms ++ x ∷ []) (meter-at l i (meter_in i l) h ∙ sym e) in
      ap (λ (x : List PlainMeter). write_records_value (map f x)) t ∙ ap write_records_value (map-append f (take i ms) (plain_meter m ∷ [])) ∙ records_append (map f (take i ms)) (f (plain_meter m))

  pub writing_more : {new : List ℕ} (bus : ℕ) (m : Meter) → i < length (decode_image l).meters → bus ≡ (decode_image l).baud → plain_meter m ≡ meter_in i l → AppendsRecord (record_for bus (plain_meter m)) bs new
      → Writing l (i + 1) new
  writing_more {new} bus m h b e r = go r.appends
    where
      go : Appends (46 * most_meters) (counted (write_rest (record_for bus (plain_meter m)))) bs new → Writing l (i + 1) new
      go (none full same) = absurd (omega (arith, meters_few l, s.short, r.short))
      go (room fits put) =
          record {
            few = omega arith;
            short = rw put (simp length-append (omega (arith, s.short, r.short)));
            is = put ∙ ap₂ (λ (x : List ℕ) (y : ℕ). x ++ counted (write_rest (record_for y (plain_meter m)))) s.is b ∙ sym (next_record m h e);
          }

  pub writing_all : length (decode_image l).meters ≤ i → RecordsWritten (decode_image l) bs
  unfolding records_of_value
  writing_all h =
      let ms = (decode_image l).meters in
      let k : i ≡ length ms = omega (arith, s.few) in
      record {
        short = omega (arith, s.short, s.few, meters_few l);
        is = s.is ∙ ap (λ (x : List PlainMeter). write_records_value (map (record_for (decode_image l).baud) x)) (ap (λ (n : ℕ). take n ms) k ∙ take-length ms);
      }
