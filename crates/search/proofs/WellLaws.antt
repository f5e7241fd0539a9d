-- An opening and a search leave the segment well formed.
use mathlib.Core.Path.{◌≡◌, refl, sym, ap, ◌∙◌, subst}
use mathlib.Core.Bool.{Bool}
use mathlib.Core.List.{List, [], ◌∷◌}
use Prim.Native.Nat.{ℕ, ◌<◌}
use native.Mathlib.Omega.{arith}
use lib.Ieee.{Float}
use lib.ListN.{length, length-map}
use Rattle.laws.specs.Words.{Every}
use Rattle.laws.proofs.Lists.{every_map, every_image, every_back}
use Rattle.frame.specs.Frame.{Telegram, encode}
use Rattle.time_clock.specs.declared.Clock.{Clock}
use Rattle.list_open.specs.Opening.{Opened, opens, refuses, open_list_value, capacity}
use Rattle.list_open.proofs.OpeningLaws.{OpensWell, open_list_well}
use Rattle.segment.specs.Plain.{Plain, blank}
use Rattle.segment.specs.Calls.{after_opening}
use Rattle.segment_send.proofs.SendLaws.{ids, send_ids}
use Rattle.search_walk.specs.Walk.{mask, reading, ask, probe, read, Walked, whole_walk}
use Rattle.search_walk.proofs.Model.{Digits}
use Rattle.search_walk.proofs.Seen.{IdDigits, WellFormed}
use Rattle.search_walk.proofs.Keeps.{walk_keeps}
use Rattle.search_walk.proofs.Upward.{walk_down, whole-down}
use Rattle.search.specs.declared.EntryRecord.{EntryRecord}
use Rattle.search.specs.SearchCall.{Searched, search_call}
use Rattle.search.proofs.Allowed.{search_cases}

-- ---- the ids say it

pub well_by_ids : (s t : Plain) → ids t ≡ ids s → WellFormed s → WellFormed t
well_by_ids s t e w =
    record {
      few = omega (arith, ap length e, length-map s.meters (λ m. m.digits), length-map t.meters (λ m. m.digits), w.few);
      ids = every_back IdDigits (λ m. m.digits) t.meters (subst (Every IdDigits) (sym e) (every_image IdDigits (λ m. m.digits) s.meters w.ids));
    }

-- ---- a search changes no id

ask_ids : (k : Clock) (t : Telegram) (s : Plain) → ids (ask k t s).1 ≡ ids s
unfolding ask
ask_ids k t s = send_ids (encode t) k s

probe_ids : (k : Clock) (p : List ℕ) (s : Plain) → ids (probe k p s).1 ≡ ids s
unfolding probe
probe_ids k p s = ask_ids k (mask p) s

read_ids : (k : Clock) (p : List ℕ) (s : Plain) → ids (read k p s).1 ≡ ids s
unfolding read
read_ids k p s = ask_ids k reading s

walk_ids : (k : Clock) (a : ℕ) (s : Plain) → ids (whole_walk k a s).segment ≡ ids s
unfolding walk_down
walk_ids k a s =
    ap (λ (w : Walked). ids w.segment) (whole-down k a s)
    ∙ walk_keeps Plain (probe k) (read k) (λ t. ids t ≡ ids s) (λ p t e. probe_ids k p t ∙ e) (λ p t e. read_ids k p t ∙ e) 8 [] a s refl

pub search_ids : (k : Clock) (a : ℕ) (lent : List EntryRecord) (s : Plain) → ids (search_call k a lent s).segment ≡ ids s
search_ids k a lent s = search_cases k a lent s (λ (r : Searched). ids r.segment ≡ ids s) (λ n l. refl) (λ h. walk_ids k a s)

-- ---- an opening

digits_of : (ds : List ℕ) → Every (λ d. d < 10) ds → Digits ds
digits_of [] h = tt
digits_of (d ∷ ds) h = (h.0, digits_of ds h.1)

pub opening_well : (list : List ℕ) (bus : ℕ) (practice : Bool) (origin : Float) (s : Plain) → WellFormed s → WellFormed (after_opening list bus practice origin s)
unfolding after_opening
opening_well list bus practice origin s w = go (open_list_value list bus practice) refl (open_list_well list bus practice)
  where
    go : (r : Opened) → open_list_value list bus practice ≡ r → OpensWell (open_list_value list bus practice) → WellFormed (after_opening list bus practice origin s)
    go (opens ms) e h =
        let g : OpensWell (opens ms) = subst OpensWell e h in
        rw (e, after_opening) (record { few = g.0; ids = every_map (λ m i. (i.0, digits_of m.digits i.1)) ms g.1 })
    go (refuses number index) e h = rw (e, after_opening) w

-- ---- the segment that a refused first opening gives

pub blank_well : WellFormed blank
unfolding blank capacity
blank_well = record { few = omega arith; ids = tt }
