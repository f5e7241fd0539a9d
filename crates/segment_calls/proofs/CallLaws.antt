-- Receive and clear on an image, from what their parts did.
use mathlib.Core.Path.{ap, ap₂, ◌∙◌}
use mathlib.Core.List.{List, [], ◌++◌}
use Prim.Native.Nat.{ℕ}
use lib.ListN.{take, drop}
use Rattle.segment.specs.Plain.{with_queue}
use Rattle.segment.specs.Calls.{clear, receive}
use Rattle.segment_image.specs.Image.{decode_image}
use Rattle.segment_image.specs.Answers.{received_by, ReceivedImage, LeftImage}
use Rattle.segment_places.specs.ProgramBecomes.{Becomes, HandsOut}
use Rattle.segment_places.proofs.Becoming.{becomes_exact}

pub received : (l lent : List ℕ) {n : ℕ} {out new : List ℕ} → HandsOut 32 (decode_image l).queue lent n out → Becomes l (with_queue (drop n (decode_image l).queue) (decode_image l)) new
    → ReceivedImage (receive lent (decode_image l)) n out l new
unfolding receive received_by
received l lent {n} {out} {new} h b =
    let s = decode_image l in
    record {
      answer =
          ap₂ (λ x t. record { count = n; lent = x; segment = t }) h.given b.means
          ∙ ap (λ k. record { count = k; lent = take k s.queue ++ drop k lent; segment = with_queue (drop k s.queue) s }) h.count;
      exact = becomes_exact b;
    }

pub cleared : {old new : List ℕ} → Becomes old (with_queue [] (decode_image old)) new → LeftImage (clear (decode_image old)) old new
unfolding clear
cleared b = record { segment = b.means; exact = becomes_exact b }
