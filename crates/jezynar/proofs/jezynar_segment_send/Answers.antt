-- `jezynar::jezynar_segment_send` meets its contract.
use mathlib.Core.Path.{◌≡◌, subst}
use mathlib.Core.List.{List}
use Prim.Native.Nat.{ℕ, ◌+◌, ◌*◌, ◌/◌, ◌%◌, ◌<◌}
use native.Mathlib.Omega.{arith}
use Rattle.time_clock.specs.declared.Clock.{Clock}
use Rattle.segment_image.specs.Image.{decode_image}
use Rattle.segment_send.specs.Send.{send}
use Rattle.segment_send.specs.View.{SentImage}
use Rattle.jezynar.proofs.jezynar_segment_send.Goals as goal

-- at an equal clock, and with the number and what is due in one
sent_at : {j k : Clock} (piece : List ℕ) {image image₁ : List ℕ} {n m r : ℕ} → j ≡ k → r ≡ n * 65536 + m → m < 65536 → SentImage (send piece j (decode_image image)) n m image image₁
    → SentImage (send piece k (decode_image image)) (r / 65536) (r % 65536) image image₁
sent_at {j} {k} piece {image} {image₁} {n} {m} {r} e f h d =
    let p : n ≡ r / 65536 = omega arith in
    let q : m ≡ r % 65536 = omega arith in
    subst (λ (x : Clock). SentImage (send piece x (decode_image image)) (r / 65536) (r % 65536) image image₁) e
    (subst (λ (x : ℕ). SentImage (send piece j (decode_image image)) (r / 65536) x image image₁) q (subst (λ (x : ℕ). SentImage (send piece j (decode_image image)) x m image image₁) p d))

pub returns : goal.returns
returns c =
    sent_at c.args.piece.now c.clock_at-at.ensures c.packed_count.ensures.0 c.packed_count.ensures.1 c.send-answer.ensures
