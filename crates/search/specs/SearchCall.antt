-- 01, "The search (ours)": the search call, over the walk.
use Rattle.std.specs.Prelude.{Bool, false, ◌&&◌, not, List, ◌++◌, map, ℕ, eqb, ltb, length, drop, if◌then◌else◌}
use Rattle.laws.specs.Refusal.{not_refused, refused_clock, refused_not_empty, refused_entries}
use Rattle.time_clock.specs.declared.Clock.{Clock}
use Rattle.segment.specs.Plain.{Plain}
use Rattle.time_clock.specs.Fields.{good_clock_value}
use Rattle.search_walk.specs.Walk.{mask_digits, Entry, one, mute, many, Walked, whole_walk}
use Rattle.search.specs.declared.EntryRecord.{EntryRecord}
use Rattle.search.specs.declared.Kind.TheVariants.{One, Mute, Many}

-- An entry in the caller's record: its kind, its eight digits (a mute's mask with F for unknown) and the E5 counted.
-- 01 gives a count for many alone; that of one and mute is 1 (docs/DECISIONS.md).
abbrev pub record_of_value : Entry → EntryRecord
record_of_value (one id) = record { kind = One; digits = id; count = 1 }
record_of_value (mute p) = record { kind = Mute; digits = mask_digits p; count = 1 }
record_of_value (many id n) = record { kind = Many; digits = id; count = n }

-- what a search gives: the number of its refusal (0: accepted), how many entries were written, the probes made, spent
-- or not, the lent records and the segment afterwards
pub record Searched : Type 0 where
  pub number : ℕ
  pub count : ℕ
  pub probes : ℕ
  pub spent : Bool
  pub lent : List EntryRecord
  pub segment : Plain

-- "Each gives its number; segment and lent memory stay." It gives no entries and no probes, and is not spent
-- (docs/DECISIONS.md).
abbrev pub search_refused : ℕ → List EntryRecord → Plain → Searched
search_refused n lent s = record { number = n; count = 0; probes = 0; spent = false; lent = lent; segment = s }

-- "Entries are written into entry records that the caller lends; further ones stay. The number of probes made comes
-- back with the list."
abbrev pub search_gave : List EntryRecord → Walked → Searched
search_gave lent w =
    record {
      number = not_refused;
      count = length w.entries;
      probes = w.probes;
      spent = w.spent;
      lent = map record_of_value w.entries ++ drop (length w.entries) lent;
      segment = w.segment;
    }

-- no input waits, and no reply is queued
abbrev pub is_empty : Plain → Bool
is_empty s = eqb (length s.input) 0 && eqb (length s.queue) 0

-- "Search checks 14, 16, 17." 14: a clock field out of range; 16: input or queue not empty; 17: fewer entries lent
-- than meters opened
unfoldable pub search_call : Clock → ℕ → List EntryRecord → Plain → Searched
search_call k allowance lent s =
    if not (good_clock_value k) then search_refused refused_clock lent s else
    if not (is_empty s) then search_refused refused_not_empty lent s else
    if ltb (length lent) (length s.meters) then search_refused refused_entries lent s else
    search_gave lent (whole_walk k allowance s)
