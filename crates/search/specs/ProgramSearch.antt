-- The program's own steps in a search: no part of what is promised of it.
use Rattle.std.specs.Prelude.{◌≡◌, List, ℕ, length}
use Rattle.laws.specs.Words.{Every}
use Rattle.list_open.specs.Opening.{capacity}
use Rattle.segment.specs.Plain.{Plain}
use Rattle.segment_image.specs.Image.{decode_image}
use Rattle.segment_places.specs.ProgramBecomes.{Becomes}
use Rattle.search_packed.specs.ProgramPacked.{PackedRun, Walking, packed_whole}
use Rattle.search.specs.ProgramPacking.{key_of_value, mark_of_value, packed, Bounded, unmarked}

-- the walk over the packed meters, from the mask with no digit
unfoldable pub packed_walk_of : Plain → ℕ → PackedRun
packed_walk_of s allowance = packed_whole (packed key_of_value s.meters) (packed (mark_of_value s.baud) s.meters) allowance

-- the walk that the program made: it is that one, and the meters are put back as their marks have them; beside it what
-- the types say of the meters
pub record Walks (old : List ℕ) (allowance : ℕ) (w : Walking) (new : List ℕ) : Type 0 where
  pub run : w.run ≡ packed_walk_of (decode_image old) allowance
  pub image : Becomes old (unmarked w.run.marks (decode_image old)) new
  pub marks : length w.run.marks ≡ capacity
  pub bounded : Every Bounded (decode_image old).meters
