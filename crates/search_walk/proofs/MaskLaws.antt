-- A mask matches exactly the ids that begin with its prefix.
use mathlib.Core.Path.{◌≡◌, refl, ap, ◌∙◌}
use mathlib.Core.Bool.{true, ◌&&◌, and-true}
use mathlib.Core.List.{List, [], ◌∷◌, ◌++◌}
use Prim.Native.Nat.{ℕ, zero, suc, ◌+◌, ◌-◌, ◌≤◌, ◌<◌}
use native.Mathlib.Omega.{arith}
use lib.Dec.{eqb}
use lib.ListN.{length, replicate, length-append, length-replicate}
use borrow.Author.Tests.{ne_eqb}
use Rattle.laws.specs.Words.{Every}
use Rattle.laws.proofs.Lists.{every_append}
use Rattle.frame.specs.Frame.{long, encode}
use Rattle.meter_identity.specs.Identity.{id_bytes_value}
use Rattle.meter_identity.proofs.IdentityLaws.{nibbles_id}
use Rattle.meter.specs.PlainMeter.{PlainMeter}
use Rattle.meter_select.specs.Matching.{alike, matches}
use Rattle.search_walk.specs.Walk.{mask_digits, mask}
use Rattle.search_walk.specs.Entries.{begins}
use Rattle.search_walk.proofs.Model.{Digits, Prefix}

pub digits_small : (ds : List ℕ) → Digits ds → Every (λ d. d < 16) ds
digits_small [] h = tt
digits_small (d ∷ ds) h = (omega (arith, h.0), digits_small ds h.1)

unknown_small : (n : ℕ) → Every (λ d. d < 16) (replicate n 0xF)
unknown_small zero = tt
unknown_small (suc n) = (omega arith, unknown_small n)

pub mask-length : (p : List ℕ) → Prefix p → length (mask_digits p) ≡ 8
unfolding mask_digits
mask-length p w = omega (arith, length-append p (replicate (8 - length p) 0xF), length-replicate {A = ℕ} (8 - length p) 0xF, w.fits)

mask_small : (p : List ℕ) → Prefix p → Every (λ d. d < 16) (mask_digits p)
unfolding mask_digits
mask_small p w = every_append (λ d. d < 16) p (replicate (8 - length p) 0xF) (digits_small p w.digits) (unknown_small (8 - length p))

alike_unknown : (n : ℕ) (ds : List ℕ) → length ds ≡ n → alike (replicate n 0xF) ds ≡ true
unfolding alike
alike_unknown zero [] h = refl
alike_unknown zero (d ∷ ds) h = absurd (omega arith)
alike_unknown (suc n) [] h = absurd (omega arith)
alike_unknown (suc n) (d ∷ ds) h = alike_unknown n ds (omega arith)

alike-begins : (p : List ℕ) (n : ℕ) (ds : List ℕ) → Digits p → length p + n ≡ length ds → alike (p ++ replicate n 0xF) ds ≡ begins p ds
unfolding alike
alike-begins [] n ds g h = alike_unknown n ds (omega arith)
alike-begins (d ∷ p) n [] g h = absurd (omega arith)
alike-begins (d ∷ p) n (x ∷ ds) g h =
    rw (ne_eqb d 0xF (λ e. omega (arith, g.0))) (ap (λ b. eqb d x && b) (alike-begins p n ds g.1 (omega arith)))

pub alike-mask : (p ds : List ℕ) → Prefix p → length ds ≡ 8 → alike (mask_digits p) ds ≡ begins p ds
unfolding mask_digits
alike-mask p ds w h = alike-begins p (8 - length p) ds w.digits (omega (arith, w.fits))

abbrev pub mask_data : List ℕ → List ℕ
mask_data p = id_bytes_value (mask_digits p) ++ 0xFF ∷ 0xFF ∷ 0xFF ∷ 0xFF ∷ []

pub mask_is : (p : List ℕ) → mask p ≡ long 0x53 0xFD 0x52 (mask_data p)
unfolding mask
mask_is p = refl

pub mask_short : (p : List ℕ) → length (encode (mask p)) ≤ 1024
unfolding mask encode id_bytes_value
mask_short p = omega arith

pub mask-matches : (p : List ℕ) (m : PlainMeter) → Prefix p → length m.digits ≡ 8 → matches (mask_data p) m ≡ begins p m.digits
unfolding matches id_bytes_value
mask-matches p m w h =
    simp and-true (ap (λ ds. alike ds m.digits) (nibbles_id (mask_digits p) (0xFF ∷ 0xFF ∷ 0xFF ∷ 0xFF ∷ []) (mask-length p w) (mask_small p w)) ∙ alike-mask p m.digits w h)
