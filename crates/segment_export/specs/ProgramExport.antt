-- The records of a segment as the program writes them, before the list's first three bytes are known.
use Rattle.std.specs.Prelude.{◌≡◌, List, map, ℕ, ◌*◌, ◌≤◌, length}
use Rattle.list.specs.Layout.{Listed}
use Rattle.list.specs.Written.{write_rest, write_records_value}
use Rattle.list_open.specs.Opening.{most_meters}
use Rattle.list_write.specs.Record.{record_for}
use Rattle.list_write.specs.ProgramRecord.{counted, Appends}
use Rattle.segment.specs.Plain.{Plain}

-- the records of a segment, one behind the other
unfoldable pub records_of_value : Plain → List ℕ
records_of_value s = write_records_value (map (record_for s.baud) s.meters)

-- behind the bytes old the record r was written, its length first, where there is room for it; a record has 46 bytes at
-- the most
pub record AppendsRecord (r : Listed) (old new : List ℕ) : Type 0 where
  pub short : length (write_rest r) ≤ 45
  pub appends : Appends (46 * most_meters) (counted (write_rest r)) old new

-- these bytes are the records of s; a record has 46 bytes at the most
pub record RecordsWritten (s : Plain) (bs : List ℕ) : Type 0 where
  pub short : length bs ≤ 46 * most_meters
  pub is : bs ≡ records_of_value s
