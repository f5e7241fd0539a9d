-- The replies of those that gave one: of meters by a test, of two lists, and how many.
use Rattle.std.specs.Prelude.{if◌then◌else◌}
use mathlib.Core.Path.{◌≡◌, refl, ap, ◌∙◌}
use mathlib.Core.Bool.{Bool, true, false, cond}
use mathlib.Core.List.{List, [], ◌∷◌, ◌++◌, map}
use Prim.Native.Nat.{ℕ, suc, ◌≤◌}
use native.Mathlib.Omega.{arith}
use lib.ListN.{length}
use Rattle.laws.specs.Words.{keep, Every}
use Rattle.meter.specs.PlainMeter.{PlainMeter}
use Rattle.meter_step.specs.Hear.{Reply, silence, says, Heard}
use Rattle.segment_telegram.specs.Handled.{with_reply, replies}

-- those that pass a test reply
pub replies-keep : (f : PlainMeter → Heard) (t : PlainMeter → Bool) (g : PlainMeter → List ℕ) (ms : List PlainMeter)
    → Every (λ m. (f m).reply ≡ (if t m then says (g m) else silence)) ms → replies (map f ms) ≡ map g (keep t ms)
replies-keep f t g [] h = refl
replies-keep f t g (m ∷ ms) h = ap (λ r. with_reply r (replies (map f ms))) h.0 ∙ go (t m) (replies-keep f t g ms h.1)
  where
    go : (b : Bool) → replies (map f ms) ≡ map g (keep t ms)
        → with_reply (if b then says (g m) else silence) (replies (map f ms)) ≡ map g (cond b (m ∷ keep t ms) (keep t ms))
    go true r = ap (λ xs. g m ∷ xs) r
    go false r = r

-- in list order
pub replies_append : (hs gs : List Heard) → replies (hs ++ gs) ≡ replies hs ++ replies gs
replies_append [] gs = refl
replies_append (h ∷ hs) gs = go h.reply (replies_append hs gs)
  where
    go : (r : Reply) → replies (hs ++ gs) ≡ replies hs ++ replies gs → with_reply r (replies (hs ++ gs)) ≡ with_reply r (replies hs) ++ replies gs
    go silence e = e
    go (says b) e = ap (λ x. b ∷ x) e

-- not more replies than meters
pub replies_few : (hs : List Heard) → length (replies hs) ≤ length hs
replies_few [] = omega arith
replies_few (h ∷ hs) = go h.reply (replies_few hs)
  where
    go : (r : Reply) → length (replies hs) ≤ length hs → length (with_reply r (replies hs)) ≤ suc (length hs)
    go silence e = omega arith
    go (says b) e = omega arith
