-- The program's tables of keys, and what it finds in them.
use Rattle.std.specs.Prelude.{List, [], ◌∷◌, ℕ, if◌then◌else◌, Option, Some, None}
use Rattle.laws.specs.Words.{same_list}
use Rattle.meter.specs.declared.Fault.{Fault}
use Rattle.list_check.specs.Tables.{Medium, FaultKey}
use Rattle.list_check.specs.declared.tables.Keyed.{Keyed}
use Rattle.list_check.specs.declared.tables.Medium.{Medium as Valued}

-- the rows that the program's rows stand for
abbrev pub row_of : Keyed Valued → Medium
row_of r = record { key = r.key.now; code = r.value.code; model = r.value.model }

abbrev pub fault_row_of : Keyed Fault → FaultKey
fault_row_of r = record { key = r.key.now; fault = r.value }

-- the row of a key, if it is there
abbrev pub medium_row : List Medium → List ℕ → Option Medium
medium_row [] t = None
medium_row (r ∷ rs) t = if same_list r.key t then Some r else medium_row rs t

abbrev pub fault_row : List FaultKey → List ℕ → Option FaultKey
fault_row [] t = None
fault_row (r ∷ rs) t = if same_list r.key t then Some r else fault_row rs t
