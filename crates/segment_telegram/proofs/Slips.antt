-- The slips to exclude, each as a law: those of one telegram.
use mathlib.Core.Path.{◌≡◌, refl}
use mathlib.Core.List.{List, [], ◌∷◌, ◌++◌, map}
use Prim.Native.Nat.{ℕ}
use Rattle.frame.specs.Frame.{short, long}
use Rattle.meter.specs.PlainMeter.{PlainMeter}
use Rattle.time_clock.specs.declared.Clock.{Clock}
use Rattle.meter_step.specs.Hear.{E5, quiet}
use Rattle.segment.specs.Plain.{Plain}
use Rattle.segment_replies.specs.Replies.{joined}
use Rattle.segment_replies.proofs.JoinLaws.{joined_acks}
use Rattle.segment_telegram.specs.Handled.{replies, heard_by, handled}

-- several E5 come end to end, as many as there are
pub acks_apart : (ms : List PlainMeter) → joined (map (λ m. E5) ms) ≡ map (λ m. 0xE5) ms
acks_apart ms = joined_acks ms

-- nothing is queued after a telegram to FF, short or long
pub FF_short_not_queued : (c : ℕ) (k : Clock) (rest : List ℕ) (s : Plain) → (handled (short c 0xFF) k rest s).queue ≡ s.queue
unfolding handled
FF_short_not_queued c k rest s = refl

pub FF_long_not_queued : (c ci : ℕ) (d : List ℕ) (k : Clock) (rest : List ℕ) (s : Plain) → (handled (long c 0xFF ci d) k rest s).queue ≡ s.queue
unfolding handled
FF_long_not_queued c ci d k rest s = refl

-- after one to FE the replies are
pub FE_long_queued : (c ci : ℕ) (d : List ℕ) (k : Clock) (rest : List ℕ) (s : Plain)
    → (handled (long c 0xFE ci d) k rest s).queue ≡ s.queue ++ joined (replies (heard_by (long c 0xFE ci d) k s))
unfolding handled
FE_long_queued c ci d k rest s = refl

-- meters that say nothing give no reply
pub silence_no_reply : (ms : List PlainMeter) → replies (map quiet ms) ≡ []
silence_no_reply [] = refl
silence_no_reply (m ∷ ms) = silence_no_reply ms
