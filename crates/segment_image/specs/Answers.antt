-- What a call on an image answers and leaves. An image that is the one image of its segment before a call is so after
-- it.
use Rattle.std.specs.Prelude.{◌≡◌, Bool, List, ℕ, ◌<◌, Float}
use Rattle.list_open.specs.Opening.{number_in, index_in, open_list_value}
use Rattle.segment.specs.Plain.{Plain}
use Rattle.segment.specs.Calls as calls
use Rattle.segment_image.specs.Image.{decode_image, encode_image, Exact}

-- a number answered, and the segment that an image means
unfoldable pub done_by : ℕ → List ℕ → calls.Done
done_by n image = record { number = n; segment = decode_image image }

-- the answer is the number of `want`, and the image means its segment; where the number is not 0, every byte of it
-- stays
pub record DoneImage (want : calls.Done) (number : ℕ) (before after : List ℕ) : Type 0 where
  pub answer : done_by number after ≡ want
  pub exact : Exact before → Exact after
  pub kept : 0 < number → after ≡ before

-- an opening: number and index are the definition's, and the image means the segment afterwards;
-- where the number is 0, it is that segment's image whatever it was before, else every byte of it stays
pub record OpenedImage (list : List ℕ) (bus : ℕ) (practice : Bool) (origin : Float) (number index : ℕ) (before after : List ℕ) : Type 0 where
  pub number_is : number ≡ number_in (open_list_value list bus practice)
  pub index_is : index ≡ index_in (open_list_value list bus practice)
  pub segment : decode_image after ≡ calls.after_opening list bus practice origin (decode_image before)
  pub bytes : number ≡ 0 → after ≡ encode_image (calls.after_opening list bus practice origin (decode_image before))
  pub kept : 0 < number → after ≡ before

-- how many bytes receive handed out, the lent bytes afterwards, and the segment that the image means afterwards
unfoldable pub received_by : ℕ → List ℕ → List ℕ → calls.Received
received_by n lent image = record { count = n; lent = lent; segment = decode_image image }

-- they are those of `want`
pub record ReceivedImage (want : calls.Received) (count : ℕ) (lent before after : List ℕ) : Type 0 where
  pub answer : received_by count lent after ≡ want
  pub exact : Exact before → Exact after

-- a call that is never refused and answers nothing: the image means the segment `want`
pub record LeftImage (want : Plain) (before after : List ℕ) : Type 0 where
  pub segment : decode_image after ≡ want
  pub exact : Exact before → Exact after
