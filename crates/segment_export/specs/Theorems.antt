-- What holds of every export.
use Rattle.std.specs.Prelude.{◌≡◌, List, ◌∷◌, ◌++◌, ℕ, ◌+◌, ◌*◌, ◌≤◌, ◌<◌, length, drop}
use Rattle.laws.specs.Words.{Every}
use Rattle.laws.specs.Refusal.{not_refused, refused_room, refused_high_primary}
use Rattle.meter.specs.PlainMeter.{PlainMeter}
use Rattle.list_open.specs.Opening.{capacity}
use Rattle.segment.specs.Plain.{Plain}
use Rattle.segment_image.specs.Image.{decode_image}
use Rattle.segment_export.specs.Export.{list_of, Exported, export_refused, export_into_value}

-- "18, a primary above 250, then 12, a short buffer": how an export is judged
pub data Judged (lent : List ℕ) (s : Plain) : Exported → Type 0 where
  -- 18: some meter has a primary above 250
  high : (before : List PlainMeter) (m : PlainMeter) (after : List PlainMeter) → s.meters ≡ before ++ m ∷ after → 250 < m.primary → Judged lent s (export_refused refused_high_primary lent)
  -- 12: none has, and the list is longer than the lent bytes
  short : Every (λ m. m.primary ≤ 250) s.meters → length lent < length (list_of s) → Judged lent s (export_refused refused_room lent)
  -- accepted: the list stands in front, and the bytes past it stay
  done : Every (λ m. m.primary ≤ 250) s.meters → length (list_of s) ≤ length lent
      → Judged lent s (record { number = not_refused; count = length (list_of s); lent = list_of s ++ drop (length (list_of s)) lent })

-- every export is judged so, and not otherwise
abbrev pub ExportJudged : Type 0
ExportJudged = (lent : List ℕ) (s : Plain) → Judged lent s (export_into_value lent s)

abbrev pub JudgedOnce : Type 0
JudgedOnce = (lent : List ℕ) (s : Plain) (e : Exported) → Judged lent s e → e ≡ export_into_value lent s

-- So many bytes are enough for any image: three, and for each meter that a segment can have a record with its longest
-- texts.
abbrev pub export_most : ℕ
export_most = 3 + 46 * capacity

abbrev pub RoomEnough : Type 0
RoomEnough = (image lent : List ℕ) → export_most ≤ length lent → (export_into_value lent (decode_image image)).number ≡ refused_room → ⊥
