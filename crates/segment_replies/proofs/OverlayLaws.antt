-- Replies joined by AND, byte by byte: one more reply at the end of the list, and the loop that lays it over those
-- before.
use Rattle.std.proofs.Common.{◌≡◌, ℕ, ◌+◌, ◌<◌, max, Bool, true, false, ◌&&◌, eqb, List, [], ◌∷◌, ◌++◌, length, get_or, take, set, sym, refl, ap, ◌∙◌, subst, ap₂, arith, length-set, length-take, get_or-set_other, get_or-set_same, ne_eqb, eqb-true}
use lib.Bits.{bit_and, and_comm, and_le_r, and_mask}
use borrow.Author.Tests.{eqb-false}
use Rattle.std.proofs.lemmas.Nat.{and_assoc}
use Rattle.std.proofs.lemmas.List.{get_or_default}
use Rattle.segment_replies.specs.Replies.{is_e5, all_e5, longest, overlaid}
use Rattle.segment_replies.specs.ProgramJoining.{Overlays}

-- ---- AND

pub and_FF : (x : ℕ) → x < 256 → bit_and x 0xFF ≡ x
and_FF x h = and_mask x 8 ∙ omega arith

-- ---- one reply more

pub overlaid_small : (rs : List (List ℕ)) (i : ℕ) → overlaid rs i < 256
overlaid_small [] i = omega arith
overlaid_small (r ∷ rs) i = omega (arith, and_le_r (get_or r i 0xFF) (overlaid rs i), overlaid_small rs i)

pub overlaid_more : (rs : List (List ℕ)) (r : List ℕ) (i : ℕ) → overlaid (rs ++ r ∷ []) i ≡ bit_and (overlaid rs i) (get_or r i 0xFF)
overlaid_more [] r i = and_comm (get_or r i 0xFF) 0xFF
overlaid_more (q ∷ rs) r i = ap (bit_and (get_or q i 0xFF)) (overlaid_more rs r i) ∙ sym (and_assoc (get_or r i 0xFF) (get_or q i 0xFF) (overlaid rs i))

pub all_e5_more : (rs : List (List ℕ)) (r : List ℕ) → all_e5 (rs ++ r ∷ []) ≡ all_e5 rs && is_e5 r
all_e5_more [] r = go (is_e5 r)
  where
    go : (b : Bool) → (b && true) ≡ b
    go true = refl
    go false = refl
all_e5_more (q ∷ rs) r = ap (λ b. is_e5 q && b) (all_e5_more rs r) ∙ go (is_e5 q)
  where
    go : (b : Bool) → (b && (all_e5 rs && is_e5 r)) ≡ ((b && all_e5 rs) && is_e5 r)
    go true = refl
    go false = refl

pub longest_more : (rs : List (List ℕ)) (r : List ℕ) → longest (rs ++ r ∷ []) ≡ max (longest rs) (length r)
longest_more [] r = omega arith
longest_more (q ∷ rs) r = omega (arith, longest_more rs r)

-- just E5, by length and first byte
pub is_e5-is : (r : List ℕ) → is_e5 r ≡ (eqb (length r) 1 && eqb (get_or r 0 0) 0xE5)
is_e5-is [] = refl
is_e5-is (b ∷ []) = refl
is_e5-is (b ∷ d ∷ r) = rw (ne_eqb (length (b ∷ d ∷ r)) 1 (λ e. absurd (omega arith)))

pub no_ack : (n : ℕ) (l : List ℕ) → 1 < length l → (n ≡ 1 → ⊥) → false ≡ is_e5 (take n l)
no_ack n l h d = sym (is_e5-is (take n l) ∙ rw (ne_eqb (length (take n l)) 1 (λ e. d (omega (arith, length-take n l)))))

-- ---- the loop

module _ {old reply : List ℕ} where
  pub overlays_none : Overlays old reply 0 old
  overlays_none = record { room = refl; done = λ k h. absurd (omega arith); left = λ k h. refl }

  pub overlays_more : {i v : ℕ} {new : List ℕ} → Overlays old reply i new → i < length new → i < length reply
      → v ≡ bit_and (get_or new i 0) (get_or reply i 0) → Overlays old reply (i + 1) (set new i v)
  overlays_more {i} {v} {new} o h l e =
      record {
        room = length-set new i v ∙ o.room;
        done = λ k b. go k b (eqb k i) refl;
        left = λ k b. get_or-set_other new i k v 0xFF (λ f. absurd (omega arith)) ∙ o.left k (omega arith);
      }
    where
      go : (k : ℕ) → k < i + 1 → (b : Bool) → eqb k i ≡ b → get_or (set new i v) k 0xFF ≡ bit_and (get_or old k 0xFF) (get_or reply k 0xFF)
      go k b true f =
          rw (eqb-true k i f)
          (get_or-set_same new i v 0xFF h ∙ e ∙ ap₂ bit_and (get_or_default new i 0 0xFF h ∙ o.left i (omega arith)) (get_or_default reply i 0 0xFF l))
      go k b false f = let n = eqb-false k i f in get_or-set_other new i k v 0xFF n ∙ o.done k (omega (arith, n))

  pub overlays_whole : {i len : ℕ} {new : List ℕ} → Overlays old reply i new → i ≡ len → Overlays old reply len new
  overlays_whole {i} {len} {new} o e = subst (λ k. Overlays old reply k new) e o

-- as far as a place that is said otherwise
pub overlays_as : {old reply new : List ℕ} {i k : ℕ} → i ≡ k → Overlays old reply i new → Overlays old reply k new
overlays_as {old} {reply} {new} e o = subst (λ n. Overlays old reply n new) e o
