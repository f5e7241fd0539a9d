-- What handling all the bytes comes to, on an image. The words are the program's.
use Rattle.std.specs.Prelude.{◌≡◌, Result, OnOk, OnErr, List, ℕ, ◌<◌, length}
use Rattle.segment.specs.Plain.{Plain}
use Rattle.segment_places.specs.declared.queue.QueueFull.{QueueFull}
use Rattle.segment_places.specs.ProgramBecomes.{Becomes}

-- done: the image means s. Else the queue of s would be too long, and every byte is as it was
pub record ComesOrStays (s : Plain) (old : List ℕ) (r : Result (Unit {0}) QueueFull) (new : List ℕ) : Type 0 where
  pub done : OnOk r (Becomes old s new)
  pub full : OnErr r (4096 < length s.queue)
  pub stays : OnErr r (new ≡ old)
