-- What demand 3 claims of a walk where no meter at bus baud is flaky.
use Rattle.std.specs.Prelude.{◌≡◌, ◌↔◌, true, false, ℕ, ◌+◌, ◌*◌, ◌<◌, length}
use mathlib.Core.List.{List, ◌++◌, Memᴰ}
use Rattle.laws.specs.Words.{keep}
use Rattle.meter.specs.PlainMeter.{PlainMeter}
use Rattle.search_walk.specs.Walk.{Entry, Walked}
use Rattle.search_walk.specs.Entries.{D, entries_of, in_entry, Rising}

-- A search over the meters ms at bus baud that was not spent: its price, 01's entries, their order, and each meter in
-- exactly one of them
pub record CompleteSearch (ms : List PlainMeter) (w : Walked) : Type 0 where
  pub probes : w.probes ≡ 1 + 10 * D ms
  pub entries : w.entries ≡ entries_of ms
  pub rising : Rising w.entries
  pub once : (m : PlainMeter) → Memᴰ m ms → length (keep (in_entry m) w.entries) ≡ 1

-- With no flaky meter at bus baud: spent exactly when (`↔`: both ways) the allowance is below the price; a spent one
-- has the first of 01's entries
pub record Steady (allowance : ℕ) (ms : List PlainMeter) (w : Walked) : Type 0 where
  pub spent : (w.spent ≡ true) ↔ (allowance < 1 + 10 * D ms)
  pub so_far : w.spent ≡ true → (rest : List Entry) × (entries_of ms ≡ w.entries ++ rest)
  pub complete : w.spent ≡ false → CompleteSearch ms w
