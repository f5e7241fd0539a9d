-- The packed walk is 01's walk over the segment that the marks stand for.
use Rattle.std.specs.Prelude.{if◌then◌else◌}
use mathlib.Core.Path.{◌≡◌, refl, sym, ap, ap₂, ◌∙◌, subst}
use mathlib.Core.Bool.{Bool, true, false}
use mathlib.Core.List.{List, [], ◌∷◌, ◌++◌, map}
use Prim.Native.Nat.{ℕ, zero, suc, ◌+◌, ◌*◌, ◌≤◌, ◌<◌}
use native.Mathlib.Nat.{zero-add}
use native.Mathlib.Omega.{arith}
use lib.Dec.{eqb, leb, ltb}
use lib.Ieee.{Float}
use borrow.Author.Tests.{ne_eqb, leb-true, leb-false}
use lib.ListN.{length, take, length-append, length-map}
use Rattle.std.proofs.lemmas.List.{map_push}
use Rattle.meter.specs.PlainMeter.{PlainMeter}
use Rattle.time_clock.specs.declared.Clock.{Clock}
use Rattle.list_open.specs.Opening.{capacity}
use Rattle.segment.specs.Plain.{Plain}
use Rattle.time_clock.specs.Fields.{good_clock_value}
use Rattle.segment_send.proofs.SendLaws.{at_rest_value}
use Rattle.search_walk.specs.Walk.{Entry, many, ten, probe, read, whole_walk}
use Rattle.search_walk.proofs.Model.{Prefix, no_digit, prefix_longer}
use Rattle.search_walk.proofs.Program.{RunP, stopped_p, counted_p, row_p, noted_p, answered_p, probed_p, walk_p, held_run, whole-held, push_up_to, push_up_to_lem}
use Rattle.search_packed.specs.ProgramMarks.{masked, acked, read_key_value, read_by, swept_by, fold_by}
use Rattle.search_packed.specs.ProgramPacked.{PackedRun, Once, packed_once, packed_note, packed_count, packed_push, packed_walk, packed_row, span_of}
use Rattle.search_packed.proofs.PackedSteps.{once_stop, once_one, once_other}
use Rattle.search.specs.declared.EntryRecord.{EntryRecord}
use Rattle.search.specs.SearchCall.{record_of_value}
use Rattle.search.specs.ProgramPacking.{record_in}
use Rattle.search.proofs.Ranges.{low_of, low_first, low_next}
use Rattle.search.proofs.PackedEntries.{record_many}
use Rattle.search.proofs.PackedProbe.{AllHold, seen_all, all_kept, masked_keeps, probe-packed}
use Rattle.search.proofs.OddMarks.{all_odd, odds, acked_odds}
use Rattle.search.proofs.PackedRead.{read_keeps, read-packed}

-- ---- the digits of a row

from : ℕ → ℕ → List ℕ
from d zero = []
from d (suc n) = d ∷ from (d + 1) n

ten-from : ten ≡ from 0 10
unfolding ten from
ten-from = refl

-- ---- entries

abbrev push : Entry → List EntryRecord → List EntryRecord
push e es = push_up_to capacity (record_of_value e) es

push_is : (e : Entry) (n : ℕ) (es : List ℕ) → record_of_value e ≡ record_in n → push e (map record_in es) ≡ map record_in (packed_push n es)
unfolding packed_push
push_is e n es h =
    ap₂ (λ l r. if ltb l capacity then map record_in es ++ r ∷ [] else map record_in es) (length-map es record_in) h
    ∙ go (ltb (length es) capacity)
  where
    go : (b : Bool) → (if b then map record_in es ++ record_in n ∷ [] else map record_in es) ≡ map record_in (if b then es ++ n ∷ [] else es)
    go true = sym (map_push record_in es n)
    go false = refl

-- ---- the walk

module _ (k : Clock) (bus : ℕ) (o : Float) (gc : good_clock_value k ≡ true) (allowance : ℕ) (ms : List PlainMeter) (ks : List ℕ) (few : length ms ≤ capacity) where
  -- the segment that marks stand for
  abbrev pub abs : List ℕ → Plain
  abs ss = at_rest_value bus o (seen_all bus ms ss)

  abbrev pub image : PackedRun → RunP (List EntryRecord) Plain
  image t = record { entries = map record_in t.entries; probes = t.probes; spent = t.spent; state = abs t.marks }

  abbrev Good : List ℕ → Type 0
  Good ss = AllHold bus ms ks ss

  abbrev Same : PackedRun → RunP (List EntryRecord) Plain → Type 0
  Same r q = (image r ≡ q) × Good r.marks

  abbrev Step : Type 0
  Step = RunP (List EntryRecord) Plain → RunP (List EntryRecord) Plain

  abbrev probed_e : List ℕ → (ℕ → Step) → Step
  probed_e = probed_p (List EntryRecord) Plain push (probe k) (read k) allowance

  abbrev answered_e : List ℕ → ℕ → Step → Step
  answered_e = answered_p (List EntryRecord) Plain push (probe k) (read k) allowance

  abbrev walk_e : ℕ → List ℕ → Step
  walk_e = walk_p (List EntryRecord) Plain push (probe k) (read k) allowance

  abbrev fol : (ℕ → PackedRun → PackedRun) → Once → PackedRun
  fol more x = if eqb x.many 0 then x.run else more x.many x.run

  module _ (p : List ℕ) (u : ℕ) (w : Prefix p) (l : length p + u ≡ 8) (t : PackedRun) (g : Good t.marks) where
    abbrev low : ℕ
    low = low_of p u

    abbrev high : ℕ
    high = low_of p u + span_of u

    abbrev ss : List ℕ
    ss = swept_by (masked low high) capacity ks t.marks

    abbrev count : ℕ
    count = fold_by (acked low high) 0 capacity ks t.marks

    good : Good ss
    good = all_kept (masked low high) (masked_keeps low high) bus capacity ms ks t.marks g

    module _ (more : ℕ → PackedRun → PackedRun) (more' : ℕ → Step) (h : (n : ℕ) (r : PackedRun) → 2 ≤ n → Good r.marks → Same (more n r) (more' n (image r))) where
      -- a probe that was paid for, by how many answered
      by_count : t.probes < allowance → (n : ℕ) → count ≡ n → Same (fol more (packed_once ks allowance low high t)) (answered_e p n (more' n) (counted_p (abs ss) (image t)))
      by_count paid zero e =
          subst (λ (x : Once). Same (fol more x) (counted_p (abs ss) (image t))) (once_other ks allowance low high t paid 0 ss refl (sym e) (λ z. omega arith)) (refl, good)
      by_count paid (suc zero) e =
          let r = read-packed k bus o gc p u w l ms ks ss few good (all_odd bus p u w l capacity ms ks t.marks few g) (sym (acked_odds low high capacity 0 ks t.marks ∙ zero-add (odds capacity ks ss)) ∙ e) in
          subst (λ (x : Once). Same (fol more x) (let q = read k p (abs ss) in noted_p (List EntryRecord) Plain push (probe k) (read k) allowance q.0 q.1 (counted_p (abs ss) (image t))))
          (once_one ks allowance low high t paid 1 ss refl (sym e) refl) (
            ap₂ (λ es s. record { entries = es; probes = t.probes + 1; spent = false; state = s }) (sym (push_is (read k p (abs ss)).0 (fold_by read_key_value high capacity ks ss) t.entries r.0)) (sym r.1),
            all_kept read_by read_keeps bus capacity ms ks ss good,
          )
      by_count paid (suc (suc n)) e =
          subst (λ (x : Once). Same (fol more x) (more' (suc (suc n)) (counted_p (abs ss) (image t))))
          (once_other ks allowance low high t paid (suc (suc n)) ss refl (sym e) (λ z. omega arith))
          (subst (λ b. Same (if b then packed_count ss t else more (suc (suc n)) (packed_count ss t)) (more' (suc (suc n)) (image (packed_count ss t)))) (sym (ne_eqb (suc (suc n)) 0 (λ z. omega arith)))
          (h (suc (suc n)) (packed_count ss t) (omega arith) good))

      once_same : Same (fol more (packed_once ks allowance low high t)) (probed_e p more' (image t))
      once_same = go (leb allowance t.probes) refl
        where
          go : (b : Bool) → leb allowance t.probes ≡ b
              → Same (fol more (packed_once ks allowance low high t)) (if b then stopped_p (image t) else (let r = probe k p (abs t.marks) in answered_e p r.0 (more' r.0) (counted_p r.1 (image t))))
          go true e =
              subst (λ (x : Once). Same (fol more x) (stopped_p (image t))) (once_stop ks allowance low high t (leb-true allowance t.probes e)) (refl, g)
          go false e =
              subst (λ (r : ℕ × Plain). Same (fol more (packed_once ks allowance low high t)) (answered_e p r.0 (more' r.0) (counted_p r.1 (image t))))
              (sym (probe-packed k bus o gc p u w l ms ks t.marks few g))
              (by_count (leb-false allowance t.probes e) count refl)

  -- a row, from the digit d on
  row_same : (p : List ℕ) (u : ℕ) → Prefix p → length p + suc u ≡ 8
      → ((q : List ℕ) → Prefix q → length q + u ≡ 8 → (t : PackedRun) → Good t.marks → Same (packed_walk ks allowance u (low_of q u) t) (walk_e u q (image t)))
      → (n d : ℕ) → d + n ≡ 10 → (t : PackedRun) → Good t.marks
      → Same (packed_row (packed_walk ks allowance u) (span_of u + 1) n (low_of (p ++ d ∷ []) u) t) (row_p (from d n) (λ d. walk_e u (p ++ d ∷ [])) (image t))
  unfolding packed_row from
  row_same p u w l ih zero d e t g = (refl, g)
  row_same p u w l ih (suc n) d e t g =
      let v = ih (p ++ d ∷ []) (prefix_longer p d w (omega arith) (omega arith)) (omega (arith, length-append p (d ∷ []))) t g in
      let r = row_same p u w l ih n (d + 1) (omega arith) (packed_walk ks allowance u (low_of (p ++ d ∷ []) u) t) v.1 in
      subst (λ x. Same (packed_row (packed_walk ks allowance u) (span_of u + 1) n x (packed_walk ks allowance u (low_of (p ++ d ∷ []) u) t)) (row_p (from d (suc n)) (λ d. walk_e u (p ++ d ∷ [])) (image t)))
      (low_next p d u)
      (r.0 ∙ ap (row_p (from (d + 1) n) (λ d. walk_e u (p ++ d ∷ []))) v.0, r.1)

  pub walk_same : (u : ℕ) (p : List ℕ) → Prefix p → length p + u ≡ 8 → (t : PackedRun) → Good t.marks → Same (packed_walk ks allowance u (low_of p u) t) (walk_e u p (image t))
  unfolding packed_walk walk_p
  walk_same zero p w l t g =
      once_same p 0 w l t g (λ n r. packed_note (n * 0x100000000 + low_of p 0) r.marks r) (λ n v. noted_p (List EntryRecord) Plain push (probe k) (read k) allowance (many p n) v.state v)
      (λ n r two gr. (
        ap (λ es. record { entries = es; probes = r.probes; spent = r.spent; state = abs r.marks })
            (sym (push_is (many p n) (n * 0x100000000 + low_of p 0) r.entries (sym (record_many p w (omega arith) n two)))),
        gr,
      ))
  walk_same (suc u) p w l t g =
      once_same p (suc u) w l t g (λ n r. packed_row (packed_walk ks allowance u) (span_of u + 1) 10 (low_of p (suc u)) r) (λ n. row_p ten (λ d. walk_e u (p ++ d ∷ [])))
      (λ n r two gr. subst (λ x. Same (packed_row (packed_walk ks allowance u) (span_of u + 1) 10 x r) (row_p ten (λ d. walk_e u (p ++ d ∷ [])) (image r))) (low_first p u)
      (subst (λ ds. Same (packed_row (packed_walk ks allowance u) (span_of u + 1) 10 (low_of (p ++ 0 ∷ []) u) r) (row_p ds (λ d. walk_e u (p ++ d ∷ [])) (image r))) (sym ten-from)
      (row_same p u w l (λ q. walk_same u q) 10 0 refl r gr)))

  -- the whole walk, from no mask and no entry
  pub whole_same : (ss : List ℕ) → Good ss
      → let t = packed_walk ks allowance 8 0 (record { entries = []; probes = 0; spent = false; marks = ss }) in
      let v = whole_walk k allowance (abs ss) in
      (map record_in t.entries ≡ take capacity (map record_of_value v.entries)) × (t.probes ≡ v.probes) × (t.spent ≡ v.spent) × (abs t.marks ≡ v.segment)
  unfolding capacity
  whole_same ss g =
      let t = packed_walk ks allowance 8 0 (record { entries = []; probes = 0; spent = false; marks = ss }) in
      let e : image t ≡ held_run (λ es. take capacity (map record_of_value es)) (whole_walk k allowance (abs ss)) =
      (walk_same 8 [] no_digit refl (record { entries = []; probes = 0; spent = false; marks = ss }) g).0
      ∙ sym (whole-held (List EntryRecord) push (λ es. take capacity (map record_of_value es)) (λ e es. push_up_to_lem record_of_value capacity e es) k allowance (abs ss)) in
      (ap (λ r. r.entries) e, ap (λ r. r.probes) e, ap (λ r. r.spent) e, ap (λ r. r.state) e)
