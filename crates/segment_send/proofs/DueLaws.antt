-- What waits after a send is incomplete, and carries how many bytes are due.
use mathlib.Core.Path.{◌≡◌, refl, sym, ap, ◌∙◌}
use mathlib.Core.Bool.{not}
use mathlib.Core.List.{List, [], ◌∷◌, ◌++◌}
use Prim.Native.Nat.{ℕ, zero, suc, ◌≤◌}
use native.Mathlib.Omega.{arith}
use lib.Dec.{ltb}
use lib.ListN.{length, drop, length-drop}
use Rattle.laws.proofs.Lists.{if_all}
use Rattle.frame.specs.Frame.{Parsed, complete, incomplete, invalid, due, parse}
use Rattle.frame.specs.Theorems.{Incomplete}
use Rattle.time_clock.specs.declared.Clock.{Clock}
use Rattle.time_clock.specs.Fields.{good_clock_value}
use Rattle.segment.specs.Plain.{Plain, with_input}
use Rattle.segment.specs.Calls.{Done, accepted, refused}
use Rattle.segment_telegram.specs.Handled.{handled}
use Rattle.segment_send.specs.Steps.{steps, handled_all}
use Rattle.segment_send.specs.Send.{send, due_after}
use Rattle.segment_send.specs.Theorems.{HandsOnDue}
use Rattle.segment_send.proofs.SendLaws.{used_some}

nothing_waits : (bs : List ℕ) → length bs ≤ 0 → Incomplete bs
unfolding parse
nothing_waits [] h = (1, refl)
nothing_waits (b ∷ bs) h = absurd (omega arith)

steps_wait : (n : ℕ) (k : Clock) (s : Plain) → length s.input ≤ n → Incomplete (steps n k s).input
unfolding steps handled
steps_wait zero k s h = nothing_waits s.input h
steps_wait (suc n) k s h = go (parse s.input) refl (steps_wait n k)
  where
    go : (r : Parsed) → parse s.input ≡ r → ((u : Plain) → length u.input ≤ n → Incomplete (steps n k u).input) → Incomplete (steps (suc n) k s).input
    go (complete t used) e ih =
        let u = used_some s.input t used e in
        let d = length-drop used s.input in
        rw (e, steps) (ih (handled t k (drop used s.input) s) (omega arith))
    go (incomplete m) e ih = rw (e, steps) (m, e)
    go (invalid why) e ih = rw (e, steps) (nothing_waits [] (omega arith))

pub handled_all_waits : (k : Clock) (s : Plain) → Incomplete (handled_all k s).input
unfolding handled_all
handled_all_waits k s = steps_wait (length s.input) k s (omega arith)

carried : (t : Plain) → Incomplete t.input → parse t.input ≡ incomplete (due_after (accepted t))
carried t w = w.1 ∙ ap incomplete (sym (ap due w.1))

abbrev Carries : Done → Type 0
Carries d = d.number ≡ 0 → parse d.segment.input ≡ incomplete (due_after d)

pub hands_on_due : HandsOnDue
unfolding send
hands_on_due piece k s =
    let t = handled_all k (with_input (s.input ++ piece) s) in
    if_all Carries (ltb 1024 (length piece)) (refused 13 s) _ (λ e. absurd (omega arith))
    (if_all Carries (not (good_clock_value k)) (refused 14 s) _ (λ e. absurd (omega arith))
    (if_all Carries (ltb 4096 (length t.queue)) (refused 15 s) (accepted t) (λ e. absurd (omega arith)) (λ e. carried t (handled_all_waits k (with_input (s.input ++ piece) s)))))
