-- A meter of the plain segment (01, "The plain segment"): "each with its record's values (primary and baud as they
-- now are, the id as its eight
-- digits), seed, access, selection, part, last FCB, readouts and whether a flaky one hears next".
use Rattle.std.specs.Prelude.{Bool, Option, List, ℕ}
use Rattle.meter.specs.declared.Fault.{Fault}
use Rattle.meter.specs.declared.Model.{Model}

pub record PlainMeter : Type 0 where
  pub primary : ℕ
  pub digits : List ℕ
  pub manufacturer : ℕ
  pub version : ℕ
  pub medium : ℕ
  pub model : Model
  pub fault : Fault
  pub access : ℕ
  pub baud : ℕ
  pub selected : Bool
  pub part : ℕ
  pub last : Option Bool
  pub readouts : ℕ
  pub seed : ℕ
  pub hears_next : Bool
