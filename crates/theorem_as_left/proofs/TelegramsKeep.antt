-- Whatever a telegram does to a segment, its bus baud and its meters stay sound.
use mathlib.Core.Path.{◌≡◌, refl, ap, ◌∙◌}
use mathlib.Core.Bool.{true}
use mathlib.Core.List.{List, [], ◌∷◌, map}
use Prim.Native.Nat.{ℕ}
use native.Mathlib.Omega.{arith}
use lib.Ieee.{Float}
use lib.Dec.{eqb}
use borrow.Author.Tests.{eq-eqb}
use lib.ListN.{get_or, length-map}
use Rattle.std.proofs.lemmas.List.Recursion.{or_at}
use Rattle.laws.proofs.Lists.{every_map, every_image}
use Rattle.frame.specs.Frame.{Telegram}
use Rattle.time_seconds.specs.Seconds.{elapsed_of_value}
use Rattle.time_clock.specs.declared.Clock.{Clock}
use Rattle.meter.specs.PlainMeter.{PlainMeter}
use Rattle.meter.specs.Meter.{rates}
use Rattle.meter_request.specs.Asking.{asked}
use Rattle.meter_step.specs.Hear.{Heard, hear}
use Rattle.meter_step.proofs.KeepLaws.{Closed, hear_keeps, Fixed, fixed, hear_fixed}
use Rattle.list_check.specs.Tables.{Medium, media, is_rate_value}
use Rattle.segment.specs.Plain.{Plain}
use Rattle.segment_telegram.specs.Handled.{heard_by, handled}
use Rattle.theorem_as_left.specs.Left.{MakerPasses, named, unnamed, InMedia, first, later, SoundMeter}
use Rattle.theorem_as_left.proofs.OpeningSound.{SoundAt}

-- ---- a meter's baud

rate_closed : (t : Telegram) → Closed t (λ m. is_rate_value rates m.baud ≡ true)
unfolding asked
rate_closed t =
    record {
      primary = λ m h. h;
      baud = λ m i l q h. let b = get_or rates i 0 in or_at (λ rs. is_rate_value rs b) (λ r. eqb r b) refl (λ r rs. refl) rates i 0 l (eq-eqb b b refl);
      selected = λ m s h. h;
      hearing = λ m b h. h;
      reset = λ m h. h;
      asked = λ m fcb h. h;
    }

-- ---- the rest of it never changes

module _ (m n : PlainMeter) (e : fixed n ≡ fixed m) where
  maker_stays : MakerPasses m → MakerPasses n
  maker_stays (named t l w c) = named t l w (ap (λ (f : Fixed). f.manufacturer) e ∙ c)
  maker_stays (unnamed c p q) = unnamed (ap (λ (f : Fixed). f.manufacturer) e ∙ c) (ap (λ (f : Fixed). f.medium) e ∙ p) (ap (λ (f : Fixed). f.model) e ∙ q)

  medium_stays : (rs : List Medium) → InMedia m rs → InMedia n rs
  medium_stays [] x' = elim x' [ ]
  medium_stays (r ∷ rs) (first p q) = first (ap (λ (f : Fixed). f.medium) e ∙ p) (ap (λ (f : Fixed). f.model) e ∙ q)
  medium_stays (r ∷ rs) (later h) = later (medium_stays rs h)

  stays_sound : is_rate_value rates n.baud ≡ true → SoundMeter m → SoundMeter n
  stays_sound b h =
      let digits = ap (λ (f : Fixed). f.digits) e in
      record {
        eight = rw digits h.eight;
        decimals = rw digits h.decimals;
        maker = maker_stays h.maker;
        version = rw (ap (λ (f : Fixed). f.version) e) h.version;
        medium = medium_stays media h.medium;
        baud = b;
      }

hear_sound : (bus : ℕ) (t : Telegram) (e : Float) (k : Clock) (m : PlainMeter) → SoundMeter m → SoundMeter (hear bus t e k m).meter
hear_sound bus t e k m h = stays_sound m (hear bus t e k m).meter (hear_fixed bus t e k m) (hear_keeps {P = λ n. is_rate_value rates n.baud ≡ true} m h.baud e k bus t (rate_closed t)) h

-- ---- a telegram

-- what waits and what is queued has no part in it
abbrev pub SoundBus : Plain → Type 0
SoundBus s = SoundAt s.baud s.meters

pub handled_sound : (t : Telegram) (k : Clock) (rest : List ℕ) (s : Plain) → SoundBus s → SoundBus (handled t k rest s)
unfolding handled heard_by
handled_sound t k rest s h =
    let e = elapsed_of_value k.now s.origin in
    let f = hear s.baud t e k in
    record {
      baud = h.baud;
      few = omega (arith, h.few, length-map s.meters f, length-map (map f s.meters) (λ (r : Heard). r.meter));
      meters = every_image SoundMeter (λ (r : Heard). r.meter) (map f s.meters) (every_image (λ (r : Heard). SoundMeter r.meter) f s.meters (every_map (hear_sound s.baud t e k) s.meters h.meters));
    }
