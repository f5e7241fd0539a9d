-- Reading the one selected of packed meters is 01's reading of the segment that they stand for: REQ_UD2 goes through
-- send, and the reply is taken whole.
use Rattle.std.specs.Prelude.{if◌then◌else◌}
use mathlib.Core.Path.{◌≡◌, refl, sym, ap, ap₂, ◌∙◌, subst}
use mathlib.Core.Bool.{Bool, true, false, ◌&&◌, ◌||◌, not, and-false}
use mathlib.Core.List.{List, [], ◌∷◌, map}
use Prim.Native.Nat.{ℕ, zero, suc, ◌+◌, ◌/◌, ◌%◌, ◌≤◌}
use native.Mathlib.Omega.{arith}
use lib.Dec.{eqb}
use lib.Ieee.{Float}
use lib.ListN.{length}
use borrow.Author.Tests.{eqb-true}
use Rattle.laws.specs.Words.{keep, Every, bit_if}
use Rattle.meter.specs.PlainMeter.{PlainMeter}
use Rattle.time_clock.specs.declared.Clock.{Clock}
use Rattle.meter.specs.Meter.{hears, offered}
use Rattle.meter_request.specs.Asking.{asked}
use Rattle.meter_step.specs.Hear.{Heard, quiet, request}
use Rattle.meter_reply.specs.Response.{readout}
use Rattle.meter_step.proofs.HearLaws.{hear-reading}
use Rattle.list_open.specs.Opening.{capacity}
use Rattle.segment.specs.Plain.{Plain}
use Rattle.segment_replies.specs.Replies.{joined}
use Rattle.time_clock.specs.Fields.{good_clock_value}
use Rattle.segment_send.proofs.SendLaws.{at_rest_value}
use Rattle.search_walk.specs.Walk.{Entry, one, mute, reading, read, entry_of}
use Rattle.search_walk.specs.Entries.{begins, fails_by}
use Rattle.search_walk.proofs.Model.{Prefix}
use Rattle.search_walk.proofs.ProbeLaws.{secs, asks, read_m, read-rest}
use Rattle.search_walk.proofs.ReadingLaws.{Nibbles, readout-nibbles}
use Rattle.search_packed.specs.ProgramMarks.{yes_of, readable, read_mark_value, read_key_value, read_by, swept_by, fold_by}
use Rattle.search_packed.specs.ProgramPacked.{span_of}
use Rattle.search.specs.SearchCall.{record_of_value}
use Rattle.search.specs.ProgramPacking.{on, as_marked, seen_as, record_in}
use Rattle.search.proofs.BitLaws.{bit_on}
use Rattle.search.proofs.MarkLaws.{yes_bit, Silent}
use Rattle.search.proofs.ReadMarks.{offered-is, bits_read, silent_read, even_read, yes-is, request-marked}
use Rattle.search.proofs.KeyDigits.{digits_eight, digits_nibbles}
use Rattle.search.proofs.Ranges.{low_of}
use Rattle.search.proofs.PackedEntries.{record_one, record_mute}
use Rattle.search.proofs.PackedProbe.{Holds, AllHold, seen_all, Keeping, standing-hears, seen_length}
use Rattle.search.proofs.OddMarks.{Selected, IfOdd, AllIfOdd, odds}
use Rattle.search.proofs.Replies.{readable-is, offered-parts, entry_none}

pub read_keeps : Keeping read_by
unfolding read_by
read_keeps =
    record {
      meter = λ bus m key s h. record {
        small = h.small;
        digits = h.digits;
        bits = λ e. bits_read m.fault s (h.bits e);
        away = λ e. silent_read s (h.away e);
      };
      none = λ key s q. silent_read s q;
    }

module _ (k : Clock) (bus : ℕ) (o : Float) (p : List ℕ) (u : ℕ) (w : Prefix p) (l : length p + u ≡ 8) where
  abbrev high : ℕ
  high = low_of p u + span_of u

  abbrev replied : PlainMeter → List ℕ
  replied n = readout (secs k bus o) k (asked false (offered n))

  -- ---- one meter

  module _ (m : PlainMeter) (key s : ℕ) (h : Holds bus m key s) where
    one_read : IfOdd bus p m s → read_m k bus o (seen_as bus m s) ≡ seen_as bus m (read_by key s)
    unfolding seen_as read_by as_marked reading
    one_read odd = ap (λ (t : Heard). t.meter) (hear-reading bus (secs k bus o) k (seen_as bus m s)) ∙ go (eqb m.baud bus) refl
      where
        go : (b : Bool) → eqb m.baud bus ≡ b
            → (let n = (if b then as_marked m s else m) in if eqb n.baud bus then (if n.selected then request false (secs k bus o) k n else quiet n) else quiet n).meter
            ≡ (if b then as_marked m (read_mark_value s) else m)
        go true e =
            ap (λ x. (if x then (if on (s % 2) then request false (secs k bus o) k (as_marked m s) else quiet (as_marked m s)) else quiet (as_marked m s)).meter) e
            ∙ by (on (s % 2)) refl
          where
            by : (c : Bool) → on (s % 2) ≡ c → (if c then request false (secs k bus o) k (as_marked m s) else quiet (as_marked m s)).meter ≡ as_marked m (read_mark_value s)
            by true c = request-marked m s (odd c).fresh (secs k bus o) k
            by false c = ap (as_marked m) (sym (even_read s c))
        go false e = ap (λ x. (if x then (if m.selected then request false (secs k bus o) k m else quiet m) else quiet m).meter) e

    -- an even mark's meter does not reply
    even_quiet : on (s % 2) ≡ false → asks k bus o (seen_as bus m s) ≡ false
    unfolding seen_as as_marked
    even_quiet c = go (eqb m.baud bus) refl
      where
        go : (b : Bool) → eqb m.baud bus ≡ b → asks k bus o (seen_as bus m s) ≡ false
        go true e = ap (λ b. asks k bus o (if b then as_marked m s else m)) e ∙ ap₂ (λ x y. x && (y && hears (as_marked m s))) e c
        go false e = ap (λ b. asks k bus o (if b then as_marked m s else m)) e ∙ ap (λ x. x && (m.selected && hears m)) e

    -- ---- the one selected

    module _ (q : Selected bus p m s) where
      hears-yes : hears (as_marked m s) ≡ on (yes_of s (s % 2))
      hears-yes =
          standing-hears m s q.fresh.bits ∙ ap (λ x. x || on (s / 4 % 2)) q.fresh.bits.steady
          ∙ sym (ap (λ x. on (yes_of s x)) q.fresh.selected ∙ yes-is m s q.fresh)

      asked_is : (c : Bool) → hears (as_marked m s) ≡ c → asks k bus o (as_marked m s) ≡ c
      unfolding as_marked
      asked_is c g = ap₂ (λ x y. x && (y && hears (as_marked m s))) q.bus_baud (ap on q.fresh.selected) ∙ g

      key-is : (c : Bool) → on (yes_of s (s % 2)) ≡ c → read_key_value high key s ≡ (if c && not (fails_by m.fault (s / 256 % 256)) then 0x100000000 + key else high)
      unfolding read_key_value
      key-is c g = ap₂ (λ x y. if x && y then 0x100000000 + key else high) g (readable-is m.fault s q.fresh.bits)

      reply_is : entry_of p (replied (as_marked m s)) ≡ (if fails_by m.fault (s / 256 % 256) then mute p else one m.digits)
      unfolding as_marked
      reply_is =
          let x = offered-parts (as_marked m s) in
          readout-nibbles p w (secs k bus o) k (offered (as_marked m s)) (subst Nibbles (sym (x.0 ∙ h.digits)) (digits_eight key, digits_nibbles key)) (ap (begins p) x.0 ∙ q.has)
          ∙ (λ i. if fails_by (x.1 i) (x.2 i) then mute p else one (x.0 i))

      fails_record : (f : Bool) → record_of_value (if f then mute p else one m.digits) ≡ record_in (if not f then 0x100000000 + key else high)
      fails_record true = sym (record_mute p u w l)
      fails_record false = sym (record_one key m.digits h.small h.digits)

      heard_entry : (c : Bool) → hears (as_marked m s) ≡ c
          → record_of_value (entry_of p (joined (map replied (keep (asks k bus o) (as_marked m s ∷ []))))) ≡ record_in (read_key_value high key s)
      unfolding joined
      heard_entry true g =
          ap (λ b. record_of_value (entry_of p (joined (map replied (if b then as_marked m s ∷ [] else []))))) (asked_is true g)
          ∙ ap record_of_value reply_is
          ∙ fails_record (fails_by m.fault (s / 256 % 256))
          ∙ ap record_in (sym (key-is true (sym hears-yes ∙ g)))
      heard_entry false g =
          ap (λ b. record_of_value (entry_of p (joined (map replied (if b then as_marked m s ∷ [] else []))))) (asked_is false g)
          ∙ ap record_of_value (entry_none p)
          ∙ sym (record_mute p u w l)
          ∙ ap record_in (sym (key-is false (sym hears-yes ∙ g)))

      -- its entry
      odd_entry : record_of_value (entry_of p (joined (map replied (keep (asks k bus o) (seen_as bus m s ∷ []))))) ≡ record_in (read_key_value high key s)
      unfolding seen_as
      odd_entry =
          ap (λ b. record_of_value (entry_of p (joined (map replied (keep (asks k bus o) ((if b then as_marked m s else m) ∷ [])))))) q.bus_baud
          ∙ heard_entry (hears (as_marked m s)) refl

  -- ---- all meters

  -- an even mark brings nothing
  even_unread : (a key s : ℕ) → on (s % 2) ≡ false → read_key_value a key s ≡ a
  unfolding read_key_value
  even_unread a key s c =
      ap (λ x. if x && readable s then 0x100000000 + key else a)
      (ap (λ x. on (yes_of s x)) (offered-is s) ∙ bit_on (yes_bit s (on (s % 2))) ∙ ap (λ x. (on (s / 16 % 2) || on (s / 4 % 2)) && x) c ∙ and-false (on (s / 16 % 2) || on (s / 4 % 2)))

  none_unread : (n a : ℕ) (ks ss : List ℕ) → Every Silent ss → fold_by read_key_value a n ks ss ≡ a
  none_unread zero a ks ss q = refl
  none_unread (suc n) a [] ss q = refl
  none_unread (suc n) a (key ∷ ks) [] q = refl
  none_unread (suc n) a (key ∷ ks) (s ∷ ss) q = ap (λ x. fold_by read_key_value x n ks ss) (even_unread a key s q.0.even) ∙ none_unread n a ks ss q.1

  even_is : (s r : ℕ) → s % 2 + r ≡ 0 → on (s % 2) ≡ false
  even_is s r e = ap on (let z : s % 2 ≡ 0 = omega arith in z)

  none_odds : (n : ℕ) (ks ss : List ℕ) → Every Silent ss → odds n ks ss ≡ 0
  none_odds zero ks ss q = refl
  none_odds (suc n) [] ss q = refl
  none_odds (suc n) (key ∷ ks) [] q = refl
  none_odds (suc n) (key ∷ ks) (s ∷ ss) q = omega (arith, offered-is s ∙ ap bit_if q.0.even, none_odds n ks ss q.1)

  -- where no mark is odd, nobody replies
  all_quiet : (n : ℕ) (ms : List PlainMeter) (ks ss : List ℕ) → length ms ≤ n → AllHold bus ms ks ss → odds n ks ss ≡ 0
      → (keep (asks k bus o) (seen_all bus ms ss) ≡ []) × ((a : ℕ) → fold_by read_key_value a n ks ss ≡ a)
  unfolding seen_all
  all_quiet n [] ks ss h q e = (refl, λ a. none_unread n a ks ss q)
  all_quiet zero (m ∷ ms) ks ss h q e = absurd (omega arith)
  all_quiet (suc n) (m ∷ ms) [] ss h q e = absurd q
  all_quiet (suc n) (m ∷ ms) (key ∷ ks) [] h q e = absurd q
  all_quiet (suc n) (m ∷ ms) (key ∷ ks) (s ∷ ss) h q e =
      let c = even_is s (odds n ks ss) e in
      let r = all_quiet n ms ks ss (omega arith) q.1 (omega arith) in (
        ap (λ b. if b then seen_as bus m s ∷ keep (asks k bus o) (seen_all bus ms ss) else keep (asks k bus o) (seen_all bus ms ss)) (even_quiet m key s q.0 c) ∙ r.0,
        λ a. ap (λ x. fold_by read_key_value x n ks ss) (even_unread a key s c) ∙ r.1 a,
      )

  -- where one is, the reply is its meter's
  all_entry : (n : ℕ) (ms : List PlainMeter) (ks ss : List ℕ) → length ms ≤ n → AllHold bus ms ks ss → AllIfOdd bus p ms ss → odds n ks ss ≡ 1
      → record_of_value (entry_of p (joined (map replied (keep (asks k bus o) (seen_all bus ms ss))))) ≡ record_in (fold_by read_key_value high n ks ss)
  unfolding seen_all
  all_entry n [] ks ss h q f e = let z : ◌≡◌ {A = ℕ} 0 1 = sym (none_odds n ks ss q) ∙ e in absurd (omega arith)
  all_entry zero (m ∷ ms) ks ss h q f e = absurd (omega arith)
  all_entry (suc n) (m ∷ ms) [] ss h q f e = absurd q
  all_entry (suc n) (m ∷ ms) (key ∷ ks) [] h q f e = absurd q
  all_entry (suc n) (m ∷ ms) (key ∷ ks) (s ∷ ss) h q f e = go (on (s % 2)) refl (all_entry n ms ks ss (omega arith) q.1 f.1)
    where
      rest : List PlainMeter
      rest = keep (asks k bus o) (seen_all bus ms ss)

      go : (c : Bool) → on (s % 2) ≡ c
          → (odds n ks ss ≡ 1 → record_of_value (entry_of p (joined (map replied (keep (asks k bus o) (seen_all bus ms ss))))) ≡ record_in (fold_by read_key_value high n ks ss))
          → record_of_value (entry_of p (joined (map replied (keep (asks k bus o) (seen_as bus m s ∷ seen_all bus ms ss))))) ≡ record_in (fold_by read_key_value (read_key_value high key s) n ks ss)
      go true c ih =
          let x : s % 2 ≡ 1 = eqb-true (s % 2) 1 c in
          let r = all_quiet n ms ks ss (omega arith) q.1 (omega arith) in
          ap (λ v. record_of_value (entry_of p (joined (map replied (if asks k bus o (seen_as bus m s) then seen_as bus m s ∷ v else v))))) r.0
          ∙ odd_entry m key s q.0 (f.0 c)
          ∙ ap record_in (sym (r.1 (read_key_value high key s)))
      go false c ih =
          let x : s % 2 ≡ 0 = offered-is s ∙ ap bit_if c in
          ap (λ b. record_of_value (entry_of p (joined (map replied (if b then seen_as bus m s ∷ rest else rest))))) (even_quiet m key s q.0 c)
          ∙ ih (omega arith)
          ∙ ap (λ v. record_in (fold_by read_key_value v n ks ss)) (sym (even_unread high key s c))

  all_read : (n : ℕ) (ms : List PlainMeter) (ks ss : List ℕ) → length ms ≤ n → AllHold bus ms ks ss → AllIfOdd bus p ms ss
      → map (read_m k bus o) (seen_all bus ms ss) ≡ seen_all bus ms (swept_by read_by n ks ss)
  unfolding seen_all
  all_read n [] ks ss h q f = refl
  all_read zero (m ∷ ms) ks ss h q f = absurd (omega arith)
  all_read (suc n) (m ∷ ms) [] ss h q f = absurd q
  all_read (suc n) (m ∷ ms) (key ∷ ks) [] h q f = absurd q
  all_read (suc n) (m ∷ ms) (key ∷ ks) (s ∷ ss) h q f =
      ap₂ (λ x xs. x ∷ xs) (one_read m key s q.0 f.0) (all_read n ms ks ss (omega arith) q.1 f.1)

-- `read_selected` after a mask that one acknowledged is 01's reading: the entry, and the segment afterwards
pub read-packed : (k : Clock) (bus : ℕ) (o : Float) → good_clock_value k ≡ true → (p : List ℕ) (u : ℕ) → Prefix p → length p + u ≡ 8
    → (ms : List PlainMeter) (ks ss : List ℕ) → length ms ≤ capacity → AllHold bus ms ks ss → AllIfOdd bus p ms ss → odds capacity ks ss ≡ 1
    → let r = read k p (at_rest_value bus o (seen_all bus ms ss)) in
    (record_of_value r.0 ≡ record_in (fold_by read_key_value (low_of p u + span_of u) capacity ks ss)) × (r.1 ≡ at_rest_value bus o (seen_all bus ms (swept_by read_by capacity ks ss)))
unfolding capacity
read-packed k bus o gc p u w l ms ks ss few q f e =
    let r = read-rest k bus o gc p (seen_all bus ms ss) (omega (arith, seen_length bus ms ks ss q)) in (
      ap (λ (x : Entry × Plain). record_of_value x.0) r ∙ all_entry k bus o p u w l capacity ms ks ss few q f e,
      ap (λ (x : Entry × Plain). x.1) r ∙ ap (at_rest_value bus o) (all_read k bus o p u w l capacity ms ks ss few q f),
    )
