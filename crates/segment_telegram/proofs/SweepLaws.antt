-- The loop over the meters of an image: its invariant, a turn, the end.
use mathlib.Core.Path.{◌≡◌, refl, sym, ap, ap₂, ◌∙◌, subst}
use mathlib.Core.Bool.{Bool, true, false}
use mathlib.Core.List.{List, [], ◌∷◌, ◌++◌, map, append-nil, map-append}
use Prim.Native.Nat.{ℕ, zero, suc, ◌+◌, ◌≤◌, ◌<◌}
use native.Mathlib.Numerals.{add-one}
use native.Mathlib.Omega.{arith}
use borrow.Author.Tests.{ltb-true, ltb-false}
use lib.Dec.{ltb}
use lib.ListN.{length, take, drop, set, get_or, replicate, length-append, length-map, length-take, length-drop}
use lib.Seq.{take-suc, take-length, drop-length, set-get_or}
use Rattle.laws.specs.Sweep.{swept}
use mathlib.Core.List.{map-map}
use Rattle.laws.proofs.Sweep.{get_d_swept, set_swept}
use Rattle.frame.specs.Frame.{Telegram}
use Rattle.time_seconds.specs.Seconds.{elapsed_of_value}
use Rattle.time_clock.specs.declared.Clock.{Clock}
use Rattle.meter.specs.PlainMeter.{PlainMeter}
use Rattle.meter_step.specs.Hear.{Heard, quiet, hear}
use Rattle.meter_concern.specs.ProgramConcern.{concerns_by}
use Rattle.meter_concern.specs.declared.Seeking.{Seeking}
use Rattle.meter_concern.specs.ProgramSeeking.{Seeks}
use Rattle.segment.specs.Plain.{with_meters}
use Rattle.segment_replies.specs.declared.Joining.{Joining}
use Rattle.segment_replies.specs.ProgramJoining.{reply_most, Joins}
use Rattle.segment_replies.proofs.JoiningLaws.{joins_none}
use Rattle.segment_telegram.specs.Handled.{replies, heard_by}
use Rattle.segment_telegram.proofs.RepliesLaws.{replies_append, replies_few}
use Rattle.segment_image.specs.Image.{decode_image}
use Rattle.segment_places.specs.ProgramBecomes.{meter_in, Becomes}
use Rattle.segment_telegram.specs.ProgramSweep.{concerns_meter, MeterHears, Sweeps}
use Rattle.segment_places.proofs.Becoming.{becomes_same, becomes_as, becomes_then}
use Rattle.segment_places.proofs.PlaceLaws.{meter-at}

-- the first i meters of old heard in the way f, which gives new, and their replies are joined
pub record Sweeping (f : PlainMeter → Heard) (old : List ℕ) (i : ℕ) (new : List ℕ) (kept : Joining) : Type 0 where
  pub becomes : Becomes old (with_meters (swept (λ p. (f p).meter) i (decode_image old).meters) (decode_image old)) new
  pub joins : Joins (replies (map f (take i (decode_image old).meters))) kept

-- a meter after it heard
abbrev then : (PlainMeter → Heard) → PlainMeter → PlainMeter
then f p = (f p).meter

module _ {f : PlainMeter → Heard} {old : List ℕ} where
  pub sweeping_none : {kept : Joining} → kept ≡ record { bytes = replicate reply_most 0xFF; count = 0; acks = true; len = 0 } → Sweeping f old 0 old kept
  sweeping_none e = record { becomes = becomes_same; joins = subst (Joins []) (sym e) joins_none }

  module _ {i : ℕ} {new : List ℕ} {kept : Joining} (s : Sweeping f old i new kept) where
    -- fewer replies than meters
    pub sweeping_few : kept.count ≤ i
    sweeping_few = omega (arith, s.joins.count, replies_few (map f (take i (decode_image old).meters)), length-map (take i (decode_image old).meters) f, length-take i (decode_image old).meters)

    meters-now : (decode_image new).meters ≡ swept (then f) i (decode_image old).meters
    meters-now = ap (λ x. x.meters) s.becomes.means

    -- the origin is as it was
    pub sweeping_origin : (decode_image new).origin ≡ (decode_image old).origin
    sweeping_origin = ap (λ x. x.origin) s.becomes.means

    -- as many meters as there were
    sweeping_count : length (decode_image new).meters ≡ length (decode_image old).meters
    sweeping_count = ap length meters-now ∙ length-append (map (then f) (take i (decode_image old).meters)) (drop i (decode_image old).meters) ∙ omega (arith, length-map (take i (decode_image old).meters) (then f), length-take i (decode_image old).meters, length-drop i (decode_image old).meters)

    module _ (h : i < length (decode_image old).meters) where
      -- the next meter is as it was
      meter-now : (d : PlainMeter) → meter_in i new ≡ get_or (decode_image old).meters i d
      meter-now d = sym (meter-at new i d (omega (arith, sweeping_count))) ∙ ap (λ xs. get_or xs i d) meters-now ∙ get_d_swept (then f) (decode_image old).meters i d h

      -- it takes its step
      pub sweeping_more : {new' : List ℕ} {kept' : Joining} → MeterHears f i new kept new' kept' → Sweeping f old (i + 1) new' kept'
      sweeping_more {new'} {kept'} t =
          let d = meter_in i new in
          let next : set (decode_image new).meters i ((then f) d) ≡ swept (then f) (i + 1) (decode_image old).meters =
          ap₂ (λ xs x. set xs i x) meters-now (ap (then f) (meter-now d)) ∙ set_swept (then f) (decode_image old).meters i d h ∙ ap (λ k. swept (then f) k (decode_image old).meters) (sym (add-one i)) in
          let more : replies (map f (take (i + 1) (decode_image old).meters)) ≡ replies (map f (take i (decode_image old).meters)) ++ replies (f d ∷ []) =
          ap (λ k. replies (map f (take k (decode_image old).meters))) (add-one i)
          ∙ ap (λ xs. replies (map f xs)) (take-suc (decode_image old).meters i d h)
          ∙ ap replies (map-append f (take i (decode_image old).meters) (get_or (decode_image old).meters i d ∷ []))
          ∙ replies_append (map f (take i (decode_image old).meters)) (f (get_or (decode_image old).meters i d) ∷ [])
          ∙ ap (λ x. replies (map f (take i (decode_image old).meters)) ++ replies (f x ∷ [])) (sym (meter-now d)) in
          record {
            becomes =
                becomes_as (ap (with_meters (set (decode_image new).meters i ((then f) d))) s.becomes.means ∙ ap (λ xs. with_meters xs (decode_image old)) next)
                (becomes_then s.becomes t.becomes);
            joins = subst (λ rs. Joins rs kept') (sym more) (t.joins (replies (map f (take i (decode_image old).meters))) s.joins);
          }

      -- the telegram does nothing to it
      sweeping_past : f (meter_in i new) ≡ quiet (meter_in i new) → Sweeping f old (i + 1) new kept
      sweeping_past q =
          let d = meter_in i new in
          let same : set (decode_image new).meters i ((then f) d) ≡ (decode_image new).meters =
          ap (λ x. set (decode_image new).meters i x) (ap (λ x. x.meter) q ∙ sym (meter-at new i d (omega (arith, sweeping_count)))) ∙ set-get_or (decode_image new).meters i d in
          sweeping_more
          (record {
            becomes = becomes_as (ap (λ xs. with_meters xs (decode_image new)) (sym same)) becomes_same;
            joins = λ rs j. subst (λ h. Joins (rs ++ replies (h ∷ [])) kept) (sym q) (subst (λ x. Joins x kept) (sym (append-nil rs)) j);
          })

-- a step, in the way of hearing said otherwise
pub part_as : {f g : PlainMeter → Heard} {i : ℕ} {old new : List ℕ} {kept r : Joining} → f ≡ g → MeterHears f i old kept new r → MeterHears g i old kept new r
part_as {i = i} {old = old} {new = new} {kept = kept} {r = r} e t = subst (λ h. MeterHears h i old kept new r) e t

-- the places from one on up to i are passed by: the invariant, a turn
pub record Skipping (q : Seeking) (image : List ℕ) (start end i : ℕ) : Type 0 where
  pub onward : start ≤ i
  pub within : i ≤ end
  pub past : (t : Telegram) → Seeks (concerns_by t) q → (j : ℕ) → start ≤ j → j < i → concerns_meter t (meter_in j image) ≡ false

pub skipping_none : {q : Seeking} {image : List ℕ} {start end : ℕ} → start ≤ end → Skipping q image start end start
skipping_none h = record { onward = omega arith; within = h; past = λ t k j a b. absurd (omega arith) }

pub skipping_more : {q : Seeking} {image : List ℕ} {start end i : ℕ} → Skipping q image start end i → i < end
    → ((t : Telegram) → Seeks (concerns_by t) q → concerns_meter t (meter_in i image) ≡ false) → Skipping q image start end (i + 1)
skipping_more {q} {image} {start} {end} {i} s h out =
    record { onward = omega (arith, s.onward); within = omega arith; past = λ t k j a b. go t k j a b (ltb j i) refl }
  where
    go : (t : Telegram) → Seeks (concerns_by t) q → (j : ℕ) → start ≤ j → j < i + 1 → (b : Bool) → ltb j i ≡ b → concerns_meter t (meter_in j image) ≡ false
    go t k j a b true e = s.past t k j a (ltb-true j i e)
    go t k j a b false e = let d : i ≡ j = omega (arith, ltb-false j i e) in subst (λ x. concerns_meter t (meter_in x image) ≡ false) d (out t k)

-- the telegram does nothing to some meters, one after the other
pub sweeping_skip : {f : PlainMeter → Heard} {old new : List ℕ} {kept : Joining} (k : ℕ) {i n : ℕ} → i + k ≡ n → Sweeping f old i new kept → n ≤ length (decode_image old).meters
    → ((j : ℕ) → i ≤ j → j < n → f (meter_in j new) ≡ quiet (meter_in j new)) → Sweeping f old n new kept
sweeping_skip {f} {old} {new} {kept} zero {i} {n} e s h q = let d : i ≡ n = omega arith in subst (λ x. Sweeping f old x new kept) d s
sweeping_skip (suc k) {i} {n} e s h q = sweeping_skip k (omega arith) (sweeping_past s (omega arith) (q i (omega arith) (omega arith))) h (λ j a b. q j (omega arith) b)

-- all have heard it
pub sweeping_all : {f : PlainMeter → Heard} {old new : List ℕ} {i : ℕ} {kept : Joining} (t : Telegram) (k : Clock) → Sweeping f old i new kept
    → i ≡ length (decode_image old).meters → f ≡ hear (decode_image old).baud t (elapsed_of_value k.now (decode_image old).origin) k → Sweeps t k old new kept
unfolding heard_by
sweeping_all {f} {old} {new} {i} {kept} t k s e w =
    let ms = (decode_image old).meters in
    let g : PlainMeter → PlainMeter = λ p. (f p).meter in
    let hs : map f ms ≡ heard_by t k (decode_image old) = ap (λ x. map x ms) w in
    let all : swept g i ms ≡ map (λ h. h.meter) (map f ms) =
    ap (λ n. swept g n ms) e ∙ ap₂ (λ x y. map g x ++ y) (take-length ms) (drop-length ms) ∙ append-nil (map g ms) ∙ sym (map-map (λ h. h.meter) f ms) in
    record {
      becomes = becomes_as (ap (λ xs. with_meters xs (decode_image old)) (all ∙ ap (map (λ h. h.meter)) hs)) s.becomes;
      joins = subst (λ x. Joins (replies x) kept) (ap (map f) (ap (λ n. take n ms) e ∙ take-length ms) ∙ hs) s.joins;
    }
