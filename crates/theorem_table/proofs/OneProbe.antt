-- A mask that at most one meter can answer gets at most one E5, so that the search's first probe has no row. This
-- asks nothing of the meters: the one may be flaky.
use mathlib.Core.Path.{◌≡◌, refl, sym, ap, ◌∙◌, subst}
use mathlib.Core.Bool.{Bool, true, false, ◌&&◌}
use mathlib.Core.List.{List, [], map}
use Prim.Native.Nat.{ℕ, zero, suc, ◌≤◌}
use native.Mathlib.Omega.{arith}
use lib.Dec.{eqb}
use lib.Ieee.{Float}
use lib.ListN.{length, length-map}
use borrow.Author.Tests.{lt-leb}
use Rattle.search_walk.proofs.ProbeLaws.{mask_one}
use Rattle.laws.specs.Words.{keep}
use Rattle.laws.proofs.Lists.{every_all, keep_fewer, and_l}
use Rattle.frame.specs.Frame.{encode}
use Rattle.time_seconds.specs.Seconds.{elapsed_of_value}
use Rattle.time_clock.specs.declared.Clock.{Clock}
use Rattle.time_clock.specs.Fields.{good_clock_value}
use Rattle.meter.specs.PlainMeter.{PlainMeter}
use Rattle.meter.specs.Meter.{hears}
use Rattle.meter_select.specs.Matching.{matches}
use Rattle.meter_step.specs.Hear.{E5, hear}
use Rattle.meter_step.proofs.HearLaws.{probed_reply}
use Rattle.segment.specs.Plain.{Plain}
use Rattle.segment.specs.Calls.{Done, accepted}
use Rattle.segment_replies.specs.Replies.{joined}
use Rattle.segment_replies.proofs.JoinLaws.{joined_acks, count_acks}
use Rattle.segment_telegram.specs.Handled.{replies}
use Rattle.segment_telegram.proofs.RepliesLaws.{replies-keep}
use Rattle.segment_send.specs.Send.{send}
use Rattle.segment_send.proofs.SendLaws.{at_rest_value, sent_to, after_sent, send-rest}
use Rattle.search_walk.specs.Walk.{mask, ask, probe, Walked, answered, walk, whole_walk}
use Rattle.search_walk.specs.Entries.{at_bus, at_bus_baud}
use Rattle.search_walk.proofs.MaskLaws.{mask_data, mask_short}
use Rattle.search_walk.proofs.Instance.{rest-is}
use Rattle.search.specs.declared.EntryRecord.{EntryRecord}
use Rattle.search.specs.SearchCall.{search_call}
use Rattle.search.proofs.Allowed.{allowed_accepted, accepted_allowed}

-- ---- one mask

module _ (k : Clock) (b : ℕ) (o : Float) (p : List ℕ) (ms : List PlainMeter) where
  -- who answers it, whatever its digits
  abbrev answers : PlainMeter → Bool
  answers m = at_bus b m && (matches (mask_data p) m && hears m)

  acks : joined (replies (sent_to k b o ms (mask p))) ≡ map (λ m. 0xE5) (keep answers ms)
  unfolding mask
  acks =
      ap joined (replies-keep (hear b (mask p) (elapsed_of_value k.now o) k) answers (λ m. E5) ms (every_all (λ m. probed_reply b (elapsed_of_value k.now o) k m (mask_data p)) ms))
      ∙ joined_acks (keep answers ms)

  module _ (good : good_clock_value k ≡ true) (few : length (keep (at_bus b) ms) ≤ 1) where
    at_most_one : length (keep answers ms) ≤ 1
    at_most_one = omega (arith, keep_fewer answers (at_bus b) ms (every_all (λ m h. and_l (at_bus b m) (matches (mask_data p) m && hears m) h) ms))

    sent : send (encode (mask p)) k (at_rest_value b o ms) ≡ accepted (after_sent k b o ms (mask p))
    sent = send-rest k b o ms (mask p) good (mask_short p) (mask_one p) (rw acks (omega (arith, length-map {B = ℕ} (keep answers ms) (λ m. 0xE5), at_most_one)))

    heard_once : (probe k p (at_rest_value b o ms)).0 ≤ 1
    unfolding probe ask
    heard_once =
        omega (
          arith,
          ap (λ (r : Done). length (keep (λ c. eqb c 0xE5) r.segment.queue)) sent,
          ap (λ bs. length (keep (λ c. eqb c 0xE5) bs)) acks,
          count_acks (keep answers ms),
          at_most_one,
        )

-- ---- the walk

once : (k : Clock) (p : List ℕ) (n : ℕ) (several : Walked → Walked) (w : Walked) → n ≤ 1 → ((answered k p n several w).probes ≡ w.probes) × ((answered k p n several w).spent ≡ w.spent)
once k p zero several w h = (refl, refl)
once k p (suc zero) several w h = (refl, refl)
once k p (suc (suc n)) several w h = absurd (omega arith)

walk_once : (k : Clock) (a : ℕ) (s : Plain) → 1 ≤ a → (probe k [] s).0 ≤ 1 → ((whole_walk k a s).probes ≡ 1) × ((whole_walk k a s).spent ≡ false)
unfolding whole_walk walk
walk_once k a s h n = rw (lt-leb a 0 h) (once k [] (probe k [] s).0 _ _ n)

-- ---- the search call

pub one_probe : (k : Clock) (a : ℕ) (lent : List EntryRecord) (s : Plain) → (search_call k a lent s).number ≡ 0 → 1 ≤ a → length (at_bus_baud s) ≤ 1
    → ((search_call k a lent s).probes ≡ 1) × ((search_call k a lent s).spent ≡ false)
one_probe k a lent s e h few =
    let go = accepted_allowed k a lent s e in
    let is = allowed_accepted k a lent s go in
    let n : (probe k [] s).0 ≤ 1 = subst (λ x. (probe k [] x).0 ≤ 1) (sym (rest-is s go.input go.queue)) (heard_once k s.baud s.origin [] s.meters go.clock few) in
    let w = walk_once k a s h n in
    (ap (λ r. r.probes) is ∙ w.0, ap (λ r. r.spent) is ∙ w.1)
