-- A probe and a reading of a segment at rest where no meter at bus baud is flaky: who answers, what is read, and what
-- of the meters stays.
use Rattle.std.specs.Prelude.{if◌then◌else◌}
use mathlib.Core.Path.{◌≡◌, refl, sym, ap, ap₂, ◌∙◌, subst}
use mathlib.Core.Bool.{Bool, true, false, ◌&&◌, not, false≢true, and-true}
use mathlib.Core.List.{List, [], ◌∷◌, map, map-map, nil≢cons, cons≢nil, head-eq_of_cons-eq, tail-eq_of_cons-eq}
use Prim.Native.Nat.{ℕ, ◌≤◌}
use native.Mathlib.Omega.{arith}
use lib.Dec.{eqb}
use lib.Ieee.{Float}
use lib.ListN.{length, length-map}
use borrow.Author.Tests.{eqb-true, eq-eqb}
use Rattle.laws.specs.Words.{keep, Every}
use Rattle.laws.proofs.Lists.{every_map, every_both, every_all, every_keep, every_image, keep_passes, keep_same, keep-map, keep-keep, map_same, and_l, and_r}
use Rattle.meter.specs.PlainMeter.{PlainMeter}
use Rattle.time_clock.specs.declared.Clock.{Clock}
use Rattle.meter.specs.Meter.{flaky, hears, offered, with_hears_next}
use Rattle.meter_request.specs.Asking.{asked}
use Rattle.meter_reply.specs.Response.{readout}
use Rattle.meter_step.proofs.HearLaws.{Alike, alike_trans, probed-alike, probed_readouts, probed_selected, read_alike, read_left}
use Rattle.list_open.specs.Opening.{capacity}
use Rattle.segment.specs.Plain.{Plain}
use Rattle.segment_replies.specs.Replies.{joined}
use Rattle.time_clock.specs.Fields.{good_clock_value}
use Rattle.segment_send.proofs.SendLaws.{at_rest_value}
use Rattle.search_walk.specs.Walk.{Entry, mask, reading, probe, read, entry_of}
use Rattle.search_walk.specs.Entries.{at_bus, begins, having, lone_entry}
use Rattle.search_walk.proofs.Model.{Prefix}
use Rattle.search_walk.proofs.Seen.{IdDigits, known, seen_of, seen_in}
use Rattle.search_walk.proofs.MaskLaws.{mask_data, mask-matches}
use Rattle.search_walk.proofs.Faithful.{Agree, apart}
use Rattle.search_walk.proofs.ReadingLaws.{readout_entry}
use Rattle.search_walk.proofs.ProbeLaws.{secs, called, asks, probed_m, read_m, readouts, probe-rest, read-rest}

-- ---- meters that always hear

hears_steady : (m : PlainMeter) → flaky m.fault ≡ false → hears m ≡ true
unfolding hears
hears_steady m h = ap (λ b. if b then m.hears_next else true) h

offered_steady : (m : PlainMeter) → flaky m.fault ≡ false → offered m ≡ m
unfolding offered
offered_steady m h = ap (λ b. if b then with_hears_next (not m.hears_next) m else m) h

apart_begins : (p q x : List ℕ) → apart p q ≡ true → begins q x ≡ true → begins p x ≡ false
apart_begins [] q x h k = absurd (false≢true h)
apart_begins (a ∷ p) [] x h k = absurd (false≢true h)
apart_begins (a ∷ p) (b ∷ q) [] h k = absurd (false≢true k)
apart_begins (a ∷ p) (b ∷ q) (c ∷ x) h k = go (eqb a c) refl (λ l. apart_begins p q x l (and_r (eqb b c) (begins q x) k))
  where
    go : (t : Bool) → eqb a c ≡ t → (apart p q ≡ true → begins p x ≡ false) → t && begins p x ≡ false
    go true e f = f (rw (eq-eqb a b (eqb-true a c e ∙ sym (eqb-true b c (and_l (eqb b c) (begins q x) k)))) at h)
    go false e f = refl

-- ---- over the parts of a segment at rest

abbrev pub has_at : ℕ → List ℕ → PlainMeter → Bool
has_at b p m = at_bus b m && begins p m.digits

pub having-at : (b : ℕ) (ms : List PlainMeter) (p : List ℕ) → having (map seen_of (keep (at_bus b) ms)) p ≡ map seen_of (keep (has_at b p) ms)
having-at b ms p = simp (keep-map, keep-keep)

abbrev pub Fine : ℕ → PlainMeter → Type 0
Fine b m = IdDigits m.digits × (at_bus b m ≡ true → flaky m.fault ≡ false)

module _ (k : Clock) (gc : good_clock_value k ≡ true) (b : ℕ) (o : Float) (p : List ℕ) (w : Prefix p) where
  pub probed-is : (m : PlainMeter) → Alike m (probed_m k b o p m)
  unfolding mask
  probed-is m = probed-alike b (secs k b o) k m (mask_data p)

  probed_count : (m : PlainMeter) → (probed_m k b o p m).readouts ≡ m.readouts
  unfolding mask
  probed_count m = probed_readouts b (secs k b o) k m (mask_data p)

  chosen : (m : PlainMeter) → IdDigits m.digits → at_bus b m ≡ true → (probed_m k b o p m).selected ≡ (begins p m.digits && hears m)
  unfolding mask
  chosen m i h = probed_selected b (secs k b o) k m (mask_data p) h ∙ ap (λ c. c && hears m) (mask-matches p m w i.0)

  seen_same : (m n : PlainMeter) → Alike m n → n.readouts ≡ m.readouts → seen_of n ≡ seen_of m
  seen_same m n a r = λ i. known (a.digits i) (a.fault i) (r i)

  pub reads_is : (m : PlainMeter) → Alike m (read_m k b o m)
  unfolding reading
  reads_is m = read_alike b (secs k b o) k m

  left_is : (m : PlainMeter) → m.selected ≡ false → read_m k b o m ≡ m
  unfolding reading
  left_is m h = read_left b (secs k b o) k m h

  bus_same : (m n : PlainMeter) → Alike m n → at_bus b n ≡ at_bus b m
  bus_same m n a = ap (λ x. eqb x b) a.baud

  fine_same : (m n : PlainMeter) → Alike m n → Fine b m → Fine b n
  fine_same m n a f =
      (subst IdDigits (sym a.digits) f.0, λ h. ap flaky a.fault ∙ f.1 (sym (bus_same m n a) ∙ h))

  has_same : (q : List ℕ) (m n : PlainMeter) → Alike m n → has_at b q n ≡ has_at b q m
  has_same q m n a = ap₂ (λ x ds. eqb x b && begins q ds) a.baud a.digits

  called_has : (m : PlainMeter) → Fine b m → called k b o p m ≡ has_at b p m
  called_has m f = go (at_bus b m) refl
    where
      go : (c : Bool) → at_bus b m ≡ c → c && (begins p m.digits && hears m) ≡ c && begins p m.digits
      go true h = rw (hears_steady m (f.1 h)) (and-true (begins p m.digits))
      go false h = refl

  asks_has : (m : PlainMeter) → Fine b m → asks k b o (probed_m k b o p m) ≡ has_at b p m
  asks_has m f = ap (λ c. c && (n.selected && hears n)) (bus_same m n (probed-is m)) ∙ go (at_bus b m) refl
    where
      n : PlainMeter
      n = probed_m k b o p m

      go : (c : Bool) → at_bus b m ≡ c → c && (n.selected && hears n) ≡ c && begins p m.digits
      go true h =
          ap₂ (λ x y. x && y) (chosen m f.0 h ∙ ap (λ y. begins p m.digits && y) (hears_steady m (f.1 h))) (hears_steady n (ap flaky (probed-is m).fault ∙ f.1 h))
          ∙ and-true (begins p m.digits && true) ∙ and-true (begins p m.digits)
      go false h = refl

  -- ---- the entry of a lone meter

  lone_entry_lem : (m : PlainMeter) → Fine b m → has_at b p m ≡ true
      → entry_of p (readout (secs k b o) k (asked false (offered (probed_m k b o p m)))) ≡ lone_entry p (seen_of m)
  lone_entry_lem m f h =
      let n = probed_m k b o p m in
      let g = fine_same m n (probed-is m) f in
      ap (λ x. entry_of p (readout (secs k b o) k (asked false x))) (offered_steady n (ap flaky (probed-is m).fault ∙ f.1 (and_l (at_bus b m) (begins p m.digits) h)))
      ∙ readout_entry p w (secs k b o) k n g.0 (ap (begins p) (probed-is m).digits ∙ and_r (at_bus b m) (begins p m.digits) h)
      ∙ ap (lone_entry p) (seen_same m n (probed-is m) (probed_count m))

  only_entry : (xs : List PlainMeter) (sm : PlainMeter) → Every (λ m. Fine b m × (has_at b p m ≡ true)) xs → map seen_of xs ≡ sm ∷ []
      → entry_of p (joined (map (λ m. readout (secs k b o) k (asked false (offered m))) (map (probed_m k b o p) xs))) ≡ lone_entry p sm
  unfolding joined
  only_entry [] sm f e = absurd (nil≢cons e)
  only_entry (m ∷ []) sm f e = lone_entry_lem m f.0.0 f.0.1 ∙ ap (lone_entry p) (head-eq_of_cons-eq e)
  only_entry (m ∷ n ∷ xs) sm f e = absurd (cons≢nil (tail-eq_of_cons-eq e))

  module _ (ms : List PlainMeter) (fine : Every (Fine b) ms) (few : length ms ≤ capacity) where
    ids : Every (λ m. length m.digits ≡ 8) ms
    ids = every_map (λ m f. f.0.0) ms fine

    pub probe_count' : (probe k p (at_rest_value b o ms)).0 ≡ length (having (seen_in (at_rest_value b o ms)) p)
    probe_count' =
        ap (λ (r : ℕ × Plain). r.0) (probe-rest k b o gc p w ms ids few)
        ∙ ap length (keep_same (called k b o p) (has_at b p) ms (every_map called_has ms fine))
        ∙ sym (ap length (having-at b ms p) ∙ length-map (keep (has_at b p) ms) seen_of)

    pub probe_state' : (probe k p (at_rest_value b o ms)).1 ≡ at_rest_value b o (map (probed_m k b o p) ms)
    probe_state' = ap (λ (r : ℕ × Plain). r.1) (probe-rest k b o gc p w ms ids few)

    pub probe_seen' : seen_in (at_rest_value b o (map (probed_m k b o p) ms)) ≡ seen_in (at_rest_value b o ms)
    probe_seen' =
        ap (map seen_of) (keep-map (at_bus b) (probed_m k b o p) ms ∙ ap (map (probed_m k b o p)) (keep_same _ (at_bus b) ms (every_all (λ m. bus_same m (probed_m k b o p m) (probed-is m)) ms)))
        ∙ map-map seen_of (probed_m k b o p) (keep (at_bus b) ms)
        ∙ map_same _ seen_of (keep (at_bus b) ms) (every_all (λ m. seen_same m (probed_m k b o p m) (probed-is m) (probed_count m)) (keep (at_bus b) ms))

    pub fine_probed : Every (Fine b) (map (probed_m k b o p) ms)
    fine_probed = every_image (Fine b) (probed_m k b o p) ms (every_map (λ m. fine_same m (probed_m k b o p m) (probed-is m)) ms fine)

    pub few_probed : length (map (probed_m k b o p) ms) ≤ capacity
    few_probed = omega (arith, length-map ms (probed_m k b o p))

    pub fine_read : Every (Fine b) (map (read_m k b o) (map (probed_m k b o p) ms))
    fine_read = every_image (Fine b) (read_m k b o) (map (probed_m k b o p) ms) (every_map (λ m. fine_same m (read_m k b o m) (reads_is m)) (map (probed_m k b o p) ms) fine_probed)

    pub few_read : length (map (read_m k b o) (map (probed_m k b o p) ms)) ≤ capacity
    few_read = omega (arith, length-map (map (probed_m k b o p) ms) (read_m k b o), few_probed)

    read_is : read k p (probe k p (at_rest_value b o ms)).1
        ≡ (entry_of p (joined (readouts k b o gc (map (probed_m k b o p) ms))), at_rest_value b o (map (read_m k b o) (map (probed_m k b o p) ms)))
    read_is = ap (read k p) probe_state' ∙ read-rest k b o gc p (map (probed_m k b o p) ms) few_probed

    pub read_state' : (read k p (probe k p (at_rest_value b o ms)).1).1 ≡ at_rest_value b o (map (read_m k b o) (map (probed_m k b o p) ms))
    read_state' = ap (λ (r : Entry × Plain). r.1) read_is

    pub read_entry' : (sm : PlainMeter) → having (seen_in (at_rest_value b o ms)) p ≡ sm ∷ [] → (read k p (probe k p (at_rest_value b o ms)).1).0 ≡ lone_entry p sm
    read_entry' sm e =
        ap (λ (r : Entry × Plain). r.0) read_is
        ∙ ap (λ xs. entry_of p (joined (map (λ m. readout (secs k b o) k (asked false (offered m))) xs)))
        (keep-map (asks k b o) (probed_m k b o p) ms ∙ ap (map (probed_m k b o p)) (keep_same _ (has_at b p) ms (every_map asks_has ms fine)))
        ∙ only_entry (keep (has_at b p) ms) sm
        (every_both (Fine b) (λ m. has_at b p m ≡ true) (keep (has_at b p) ms) (every_keep (Fine b) (has_at b p) ms fine) (keep_passes (has_at b p) ms))
        (sym (having-at b ms p) ∙ e)

    -- a meter with a prefix apart from p is not asked
    left_alone : (q : List ℕ) → apart p q ≡ true → (m : PlainMeter) → Fine b m × (has_at b q m ≡ true) → seen_of (read_m k b o (probed_m k b o p m)) ≡ seen_of m
    left_alone q h m f =
        let n = probed_m k b o p m in
        ap seen_of (left_is n (chosen m f.0.0 (and_l (at_bus b m) (begins q m.digits) f.1) ∙ rw (apart_begins p q m.digits h (and_r (at_bus b m) (begins q m.digits) f.1))))
        ∙ seen_same m n (probed-is m) (probed_count m)

    both : PlainMeter → PlainMeter
    both m = read_m k b o (probed_m k b o p m)

    both_is : (m : PlainMeter) → Alike m (both m)
    unfolding both
    both_is m = alike_trans m (probed_m k b o p m) (read_m k b o (probed_m k b o p m)) (probed-is m) (reads_is (probed_m k b o p m))

    pub read_seen' : Agree p (seen_in (at_rest_value b o ms)) (seen_in (at_rest_value b o (map (read_m k b o) (map (probed_m k b o p) ms))))
    unfolding both
    read_seen' q h =
        having-at b ms q
        ∙ sym (map_same (λ m. seen_of (both m)) seen_of (keep (has_at b q) ms)
        (every_map (left_alone q h) (keep (has_at b q) ms)
        (every_both (Fine b) (λ m. has_at b q m ≡ true) (keep (has_at b q) ms) (every_keep (Fine b) (has_at b q) ms fine) (keep_passes (has_at b q) ms))))
        ∙ sym (
        having-at b (map (read_m k b o) (map (probed_m k b o p) ms)) q
        ∙ ap (λ xs. map seen_of (keep (has_at b q) xs)) (map-map (read_m k b o) (probed_m k b o p) ms)
        ∙ ap (map seen_of) (keep-map (has_at b q) both ms ∙ ap (map both) (keep_same _ (has_at b q) ms (every_all (λ m. has_same q m (both m) (both_is m)) ms)))
        ∙ map-map seen_of both (keep (has_at b q) ms)
        )
