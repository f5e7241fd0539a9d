-- Flaky meters or not, whatever the digits of their ids: no telegram of a search is refused, entries are never more
-- than meters,
-- and the walk leaves the segment at rest with the same ids.
use mathlib.Core.Path.{◌≡◌, refl, sym, ap, ◌∙◌, subst}
use mathlib.Core.Bool.{true, ◌&&◌}
use mathlib.Core.List.{List, [], map, map-map}
use Prim.Native.Nat.{ℕ, ◌≤◌}
use native.Mathlib.Omega.{arith}
use lib.Dec.{eqb}
use lib.Ieee.{Float}
use lib.ListN.{length, length-map}
use Rattle.std.proofs.lemmas.Bool.{and_from}
use Rattle.laws.specs.Words.{keep, Every}
use Rattle.laws.proofs.Lists.{every_map, every_all, every_image, keep_same, keep-map, keep-keep, keep_fewer, length-keep, map_same, and_l, and_r}
use Rattle.frame.specs.Frame.{encode}
use Rattle.meter.specs.PlainMeter.{PlainMeter}
use Rattle.time_clock.specs.declared.Clock.{Clock}
use Rattle.meter.specs.declared.Fault.TheVariants.{None}
use Rattle.meter.specs.Meter.{hears}
use Rattle.meter_step.proofs.HearLaws.{Alike}
use Rattle.list_open.specs.Opening.{capacity}
use Rattle.segment.specs.Plain.{Plain}
use Rattle.segment_send.specs.Send.{send}
use Rattle.time_clock.specs.Fields.{good_clock_value}
use Rattle.segment_send.proofs.SendLaws.{at_rest_value}
use Rattle.search_walk.specs.Walk.{Entry, mask, reading, probe, read, Walked, whole_walk}
use Rattle.search_walk.specs.Entries.{having, begins, at_bus}
use Rattle.search_walk.proofs.Model.{Prefix, no_digit}
use Rattle.search_walk.proofs.Seen.{known, WellFormed}
use Rattle.search_walk.proofs.Faithful.{walk-fits}
use Rattle.search_walk.proofs.Upward.{walk_down, whole-down}
use Rattle.search_walk.proofs.ProbeLaws.{called, probed_m, read_m, probe-rest, read-rest, mask_sent, reading_sent}
use Rattle.search_walk.proofs.SteadyMeters.{has_at, probed-is, reads_is}
use Rattle.search_walk.proofs.Instance.{rest-is}

-- at most 64 meters, each with eight digits of any kind: every value of the program's segment
pub record Sized (s : Plain) : Type 0 where
  pub few : length s.meters ≤ capacity
  pub eight : Every (λ m. length m.digits ≡ 8) s.meters

pub well_sized : (s : Plain) → WellFormed s → Sized s
well_sized s w = record { few = w.few; eight = every_map (λ m i. i.0) s.meters w.ids }

-- a segment at rest, as every search begins, goes on and ends
pub record Idle (s : Plain) : Type 0 where
  pub input : s.input ≡ []
  pub queue : s.queue ≡ []
  pub sized : Sized s

-- ---- no send of a search is ever refused

pub mask-accepted : (k : Clock) → good_clock_value k ≡ true → (s : Plain) → Idle s → (p : List ℕ) → Prefix p → (send (encode (mask p)) k s).number ≡ 0
mask-accepted k gc s i p w =
    subst (λ x. (send (encode (mask p)) k x).number ≡ 0) (sym (rest-is s i.input i.queue))
    (ap (λ d. d.number) (mask_sent k s.baud s.origin gc p w s.meters i.sized.eight i.sized.few))

pub reading-accepted : (k : Clock) → good_clock_value k ≡ true → (s : Plain) → Idle s → (send (encode reading) k s).number ≡ 0
reading-accepted k gc s i =
    subst (λ x. (send (encode reading) k x).number ≡ 0) (sym (rest-is s i.input i.queue))
    (ap (λ d. d.number) (reading_sent k s.baud s.origin gc s.meters i.sized.few))

-- ---- the ids at bus baud

abbrev pub bare : PlainMeter → PlainMeter
bare m = known m.digits None 0

abbrev pub ids_at : Plain → List PlainMeter
ids_at s = map bare (keep (at_bus s.baud) s.meters)

having_ids : (b : ℕ) (ms : List PlainMeter) (p : List ℕ) → having (map bare (keep (at_bus b) ms)) p ≡ map bare (keep (has_at b p) ms)
having_ids b ms p = simp (keep-map, keep-keep)

ids_same : (b : ℕ) (f : PlainMeter → PlainMeter) → ((m : PlainMeter) → Alike m (f m)) → (ms : List PlainMeter) → map bare (keep (at_bus b) (map f ms)) ≡ map bare (keep (at_bus b) ms)
ids_same b f h ms =
    ap (map bare) (keep-map (at_bus b) f ms ∙ ap (map f) (keep_same _ (at_bus b) ms (every_all (λ m. ap (λ x. eqb x b) (h m).baud) ms)))
    ∙ map-map bare f (keep (at_bus b) ms)
    ∙ map_same _ bare (keep (at_bus b) ms) (every_all (λ m. ap (λ ds. known ds None 0) (h m).digits) (keep (at_bus b) ms))

module _ (k : Clock) (gc : good_clock_value k ≡ true) (ms : List PlainMeter) where
  abbrev pub Inv : Plain → Type 0
  Inv s = Idle s × (ids_at s ≡ ms)

  changed : (b : ℕ) (o : Float) (ns : List PlainMeter) (f : PlainMeter → PlainMeter) → ((m : PlainMeter) → Alike m (f m)) → Sized (at_rest_value b o ns) → ids_at (at_rest_value b o ns) ≡ ms → Inv (at_rest_value b o (map f ns))
  changed b o ns f h z e = (
    record {
      input = refl;
      queue = refl;
      sized = record {
        few = omega (arith, length-map ns f, z.few);
        eight = every_image (λ m. length m.digits ≡ 8) f ns (every_map (λ m i. ap length (h m).digits ∙ i) ns z.eight);
      };
    },
    ids_same b f h ns ∙ e,
  )

  back : (s : Plain) → Inv s → (P : Plain → Type 0) → P (at_rest_value s.baud s.origin s.meters) → P s
  back s i P h = subst P (sym (rest-is s i.0.input i.0.queue)) h

  pub probe_inv : (p : List ℕ) → Prefix p → (s : Plain) → Inv s → Inv (probe k p s).1
  probe_inv p w s i =
      back s i (λ x. Inv (probe k p x).1)
      (subst Inv (sym (ap (λ (r : ℕ × Plain). r.1) (probe-rest k s.baud s.origin gc p w s.meters i.0.sized.eight i.0.sized.few)))
      (changed s.baud s.origin s.meters (probed_m k s.baud s.origin p) (probed-is k gc s.baud s.origin p w) (record { few = i.0.sized.few; eight = i.0.sized.eight }) i.1))

  pub read_inv : (p : List ℕ) → Prefix p → (s : Plain) → Inv s → Inv (read k p s).1
  read_inv p w s i =
      back s i (λ x. Inv (read k p x).1)
      (subst Inv (sym (ap (λ (r : Entry × Plain). r.1) (read-rest k s.baud s.origin gc p s.meters i.0.sized.few)))
      (changed s.baud s.origin s.meters (read_m k s.baud s.origin) (reads_is k gc s.baud s.origin p w) (record { few = i.0.sized.few; eight = i.0.sized.eight }) i.1))

  probe_le : (p : List ℕ) → Prefix p → (s : Plain) → Inv s → (probe k p s).0 ≤ length (having ms p)
  probe_le p w s i =
      back s i (λ x. (probe k p x).0 ≤ length (having ms p))
      (omega (
        arith,
        ap (λ (r : ℕ × Plain). r.0) (probe-rest k s.baud s.origin gc p w s.meters i.0.sized.eight i.0.sized.few),
        keep_fewer (called k s.baud s.origin p) (has_at s.baud p) s.meters (every_all (weaker s.baud) s.meters),
        ap length (sym (having_ids s.baud s.meters p) ∙ ap (λ v. having v p) i.1),
        length-map (keep (has_at s.baud p) s.meters) bare,
      ))
    where
      weaker : (b : ℕ) (m : PlainMeter) → called k b s.origin p m ≡ true → has_at b p m ≡ true
      weaker b m h =
          and_from (at_bus b m) (begins p m.digits) (and_l (at_bus b m) (begins p m.digits && hears m) h)
          (and_l (begins p m.digits) (hears m) (and_r (at_bus b m) (begins p m.digits && hears m) h))

  fits_all : (a : ℕ) (s : Plain) → Inv s → (length (walk_down k a s).entries ≤ length (having ms [])) × Inv (walk_down k a s).state
  unfolding walk_down
  fits_all a s i = walk-fits Plain (probe k) (read k) Inv ms probe_inv read_inv probe_le 8 [] no_digit refl a s i

-- entries never more than meters, and the segment at rest again
pub walk-fits-meters : (k : Clock) → good_clock_value k ≡ true → (a : ℕ) (s : Plain) → Idle s → (length (whole_walk k a s).entries ≤ length s.meters) × Idle (whole_walk k a s).segment
walk-fits-meters k gc a s i =
    let f = fits_all k gc (ids_at s) a s (i, refl) in (
      omega (
        arith,
        ap (λ (w : Walked). length w.entries) (whole-down k a s),
        f.0,
        length-keep (λ (m : PlainMeter). begins [] m.digits) (ids_at s),
        length-map (keep (at_bus s.baud) s.meters) bare,
        length-keep (at_bus s.baud) s.meters,
      ),
      subst (λ (w : Walked). Idle w.segment) (sym (whole-down k a s)) f.1.0,
    )
