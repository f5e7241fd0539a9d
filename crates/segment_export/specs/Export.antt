-- The segment as a list (Req 04): "After address and baud changes, a site wants its segment back as a meter list."
use Rattle.std.specs.Prelude.{Bool, false, ◌||◌, List, [], ◌∷◌, ◌++◌, map, ℕ, ltb, length, drop, if◌then◌else◌}
use Rattle.laws.specs.Refusal.{not_refused, refused_room, refused_high_primary}
use Rattle.meter.specs.PlainMeter.{PlainMeter}
use Rattle.list.specs.Written.{write_list_value}
use Rattle.list_write.specs.Record.{record_for}
use Rattle.segment.specs.Plain.{Plain}

-- "Write one in 01's layout from the present meters, in segment order"
unfoldable pub list_of : Plain → List ℕ
list_of s = write_list_value (map (record_for s.baud) s.meters)

-- "a primary above 250"
abbrev pub any_above250 : List PlainMeter → Bool
any_above250 [] = false
any_above250 (m ∷ ms) = ltb 250 m.primary || any_above250 ms

-- what an export gives: the number of its refusal (0: accepted), how many bytes were written, the lent bytes afterwards
pub record Exported : Type 0 where
  pub number : ℕ
  pub count : ℕ
  pub lent : List ℕ

-- a refused one writes nothing
abbrev pub export_refused : ℕ → List ℕ → Exported
export_refused n lent = record { number = n; count = 0; lent = lent }

-- "(18, a primary above 250, then 12, a short buffer ..)"; lent bytes past the list stay
unfoldable pub export_into_value : List ℕ → Plain → Exported
export_into_value lent s =
    if any_above250 s.meters then export_refused refused_high_primary lent else
    if ltb (length lent) (length (list_of s)) then export_refused refused_room lent else
    record { number = not_refused; count = length (list_of s); lent = list_of s ++ drop (length (list_of s)) lent }
