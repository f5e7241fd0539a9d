-- Send, refusal by refusal, from what its parts did.
use mathlib.Core.Path.{◌≡◌, refl, sym, ap, ◌∙◌}
use mathlib.Core.Bool.{Bool, true, false, not}
use mathlib.Core.List.{List, [], ◌∷◌, ◌++◌}
use Prim.Native.Nat.{ℕ, ◌≤◌, ◌<◌}
use native.Mathlib.Omega.{arith}
use borrow.Author.Tests.{lt-ltb, le-ltb, not-true, not-false}
use lib.ListN.{length}
use Rattle.time_clock.specs.declared.Clock.{Clock}
use Rattle.time_clock.specs.Fields.{good_clock_value}
use Rattle.segment.specs.Plain.{Plain, with_input}
use Rattle.segment.specs.Calls.{refused}
use Rattle.segment_send.specs.Steps.{handled_all}
use Rattle.segment_send.specs.Send.{fits_queue, send}

module _ (piece : List ℕ) (k : Clock) (s : Plain) where
  pub send_long : 1024 < length piece → refused 13 s ≡ send piece k s
  unfolding send
  send_long h = sym (rw (lt-ltb 1024 (length piece) h))

  module _ (short : length piece ≤ 1024) {good : Bool} (g : good ≡ good_clock_value k) where
    pub send_clock : not good ≡ true → refused 14 s ≡ send piece k s
    unfolding send
    send_clock h = sym (rw (le-ltb 1024 (length piece) short, sym g, not-true good h))

    module _ (h : not good ≡ false) where
      steps_taken : send piece k s ≡ fits_queue s (handled_all k (with_input (s.input ++ piece) s))
      unfolding send
      steps_taken = rw (le-ltb 1024 (length piece) short, sym g, not-false good h)

      pub send_settles : {bytes : List ℕ} → bytes ≡ s.input ++ piece → fits_queue s (handled_all k (with_input bytes s)) ≡ send piece k s
      send_settles b = ap (λ x. fits_queue s (handled_all k (with_input x s))) b ∙ sym steps_taken

-- where nothing waits, the piece is all there is
pub nothing_waits : (s : List ℕ) (n : ℕ) (piece : List ℕ) → n ≡ length s → n ≡ 0 → piece ≡ s ++ piece
nothing_waits [] n piece e f = refl
nothing_waits (x ∷ s) n piece e f = absurd (omega arith)
