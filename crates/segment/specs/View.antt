-- The program's segment in the terms of the definitions.
use Rattle.std.specs.Prelude.{map, take}
use Rattle.meter.specs.View.{plain_meter}
use Rattle.segment.specs.declared.Segment.{Segment}
use Rattle.segment.specs.Plain.{Plain}

-- the first of each array, as many as its length says, and no more than the array has
unfoldable pub plain_of : Segment → Plain
plain_of s =
    record {
      baud = s.baud;
      origin = s.origin;
      input = take s.waiting s.input;
      queue = take s.queued s.queue;
      meters = map plain_meter (take s.count s.meters);
    }
