-- What a search can tell of a meter, and what every segment holds.
use mathlib.Core.Path.{◌≡◌}
use mathlib.Core.Bool.{false}
use mathlib.Core.List.{List, map}
use Prim.Native.Nat.{ℕ, ◌≤◌}
use lib.ListN.{length}
use Rattle.laws.specs.Words.{Every}
use Rattle.meter.specs.PlainMeter.{PlainMeter}
use Rattle.meter.specs.declared.Fault.{Fault}
use Rattle.meter.specs.declared.Model.TheVariants.{Water}
use Rattle.std.specs.Prelude.{None}
use Rattle.list_open.specs.Opening.{capacity}
use Rattle.segment.specs.Plain.{Plain}
use Rattle.search_walk.specs.Entries.{at_bus_baud}
use Rattle.search_walk.proofs.Model.{Digits}

-- a meter of which only digits, fault and readouts are known
abbrev pub known : List ℕ → Fault → ℕ → PlainMeter
known digits fault readouts =
    record {
      primary = 0;
      digits = digits;
      manufacturer = 0;
      version = 0;
      medium = 0;
      model = Water;
      fault = fault;
      access = 0;
      baud = 0;
      selected = false;
      part = 0;
      last = None;
      readouts = readouts;
      seed = 0;
      hears_next = false;
    }

-- a meter as a search can tell it: probes change nothing of this
abbrev pub seen_of : PlainMeter → PlainMeter
seen_of m = known m.digits m.fault m.readouts

-- the meters at bus baud, as a search can tell them
abbrev pub seen_in : Plain → List PlainMeter
seen_in s = map seen_of (at_bus_baud s)

-- an id: eight digits
abbrev pub IdDigits : List ℕ → Type 0
IdDigits ds = (length ds ≡ 8) × Digits ds

-- at most 64 meters, each with an id
pub record WellFormed (s : Plain) : Type 0 where
  pub few : length s.meters ≤ capacity
  pub ids : Every (λ m. IdDigits m.digits) s.meters
