-- What the program keeps of the replies: none yet, one more, and that all come to `joined`.
use Rattle.std.specs.Prelude.{if◌then◌else◌}
use Rattle.std.proofs.Common.{◌≡◌, ℕ, zero, suc, ◌+◌, ◌%◌, ◌^◌, ◌<◌, min, max, Bool, true, false, ◌&&◌, ltb, List, [], ◌∷◌, ◌++◌, length, get_or, take, replicate, sym, refl, ap, ◌∙◌, subst, ap₂, append-nil, arith, length-append, length-take, length-take-le, get_or-take, ext_get_or, ltb-false, ltb-true, eqb-true}
use mathlib.Core.Bool.{and-true}
use lib.Bits.{bit_and}
use lib.ListN.{get_or-replicate, length-replicate, get_or-eq_default}
use Rattle.laws.specs.Words.{Every, Bytes}
use Rattle.laws.proofs.Lists.{every_append, and_l, and_r, every_take}
use Rattle.meter_reply.specs.declared.Reply.{Reply}
use Rattle.meter_step.specs.Hear.{E5}
use Rattle.segment_replies.specs.declared.Joining.{Joining}
use Rattle.segment_replies.specs.Replies.{is_e5, all_e5, end_to_end, longest, overlaid, places, joined}
use Rattle.segment_replies.specs.ProgramJoining.{reply_most, Joins, JoinsAck, JoinsReply, bytes_kept, Overlays}
use Rattle.segment_replies.proofs.JoinLaws.{length-places}
use Rattle.segment_replies.proofs.OverlayLaws.{overlays_none, overlays_more, and_FF, overlaid_small, overlaid_more, all_e5_more, longest_more}

pub small_all : (l : List ℕ) → ((i : ℕ) → get_or l i 0 < 256) → Bytes l
small_all [] h = tt
small_all (b ∷ l) h = (h 0, small_all l (λ i. h (suc i)))

small_at : (l : List ℕ) (i : ℕ) → Bytes l → get_or l i 0xFF < 256
small_at [] i h = omega arith
small_at (b ∷ l) zero h = h.0
small_at (b ∷ l) (suc i) h = small_at l i h.1

pub joins_none : Joins [] (record { bytes = replicate reply_most 0xFF; count = 0; acks = true; len = 0 })
joins_none =
    record {
      count = refl;
      acks = refl;
      len = refl;
      fits = omega arith;
      room = length-replicate {A = ℕ} reply_most 0xFF;
      small = tt;
      and = λ i h. get_or-replicate reply_most i 0xFF 0xFF h;
    }

-- one reply more is counted without a wrap
pub count_more : (n : ℕ) → n < 4096 → (n + 1) % 2 ^ 64 ≡ n + 1
count_more n h = omega arith

module _ {rs : List (List ℕ)} {j k : Joining} {bytes : List ℕ} where
  -- a reply, laid over those before it
  pub joins_more : (n : ℕ) {len : ℕ} {a : Bool} → Joins rs j → length bytes ≡ reply_most → Bytes bytes → len ≡ min n reply_most → a ≡ is_e5 (take n bytes) → Overlays j.bytes bytes len k.bytes
      → k.count ≡ j.count + 1 → k.acks ≡ (j.acks && a) → k.len ≡ max j.len len → Joins (rs ++ take n bytes ∷ []) k
  joins_more n {len} {a} s room small e ack o count acks long =
      let l : length (take n bytes) ≡ len = omega (arith, length-take n bytes) in
      record {
        count = omega (arith, count, s.count, length-append rs (take n bytes ∷ []));
        acks = acks ∙ ap₂ (λ x y. x && y) s.acks ack ∙ sym (all_e5_more rs (take n bytes));
        len = omega (arith, long, s.len, longest_more rs (take n bytes));
        fits = omega (arith, s.fits, long);
        room = o.room ∙ s.room;
        small = every_append Bytes rs (take n bytes ∷ []) s.small (every_take (λ b. b < 256) n bytes small, tt);
        and = λ i h. go i h (ltb i len) refl ∙ sym (overlaid_more rs (take n bytes) i);
      }
    where
      go : (i : ℕ) → i < reply_most → (b : Bool) → ltb i len ≡ b → get_or k.bytes i 0xFF ≡ bit_and (overlaid rs i) (get_or (take n bytes) i 0xFF)
      go i h true b =
          let f = ltb-true i len b in
          o.done i f ∙ ap₂ bit_and (s.and i h) (sym (get_or-take n bytes i 0xFF (omega arith)))
      go i h false b =
          let f = ltb-false i len b in
          o.left i f ∙ s.and i h ∙ sym (ap (bit_and (overlaid rs i)) (get_or-eq_default (take n bytes) 0xFF (omega (arith, length-take n bytes))) ∙ and_FF (overlaid rs i) (overlaid_small rs i))

-- ---- all of them

ends_acks : (rs : List (List ℕ)) → all_e5 rs ≡ true → end_to_end rs ≡ replicate (length rs) 0xE5
ends_acks [] h = refl
ends_acks (r ∷ rs) h = ap₂ (λ x y. x ++ y) (one r (and_l (is_e5 r) (all_e5 rs) h)) (ends_acks rs (and_r (is_e5 r) (all_e5 rs) h))
  where
    one : (r : List ℕ) → is_e5 r ≡ true → r ≡ 0xE5 ∷ []
    one [] e = let z : ◌≡◌ {A = ℕ} 0 1 = cc in absurd (omega arith)
    one (b ∷ []) e = ap (λ x. x ∷ []) (eqb-true b 0xE5 e)
    one (b ∷ d ∷ r) e = let z : ◌≡◌ {A = ℕ} 0 1 = cc in absurd (omega arith)

get_d_places : (f : ℕ → ℕ) (i n k d : ℕ) → k < n → get_or (places f i n) k d ≡ f (i + k)
get_d_places f i zero k d h = absurd (omega arith)
get_d_places f i (suc n) zero d h = ap f (omega arith)
get_d_places f i (suc n) (suc k) d h = get_d_places f (suc i) n k d (omega arith) ∙ ap f (omega arith)

-- the bytes kept are those of all the replies, overlaid
places_kept : (rs : List (List ℕ)) (j : Joining) → Joins rs j → places (overlaid rs) 0 (longest rs) ≡ take j.len j.bytes
places_kept rs j s =
    let l : length (take j.len j.bytes) ≡ j.len = length-take-le j.len j.bytes (omega (arith, s.fits, s.room)) in
    let p = length-places (overlaid rs) 0 (longest rs) in
    let e = s.len in
    ext_get_or 0xFF (places (overlaid rs) 0 (longest rs)) (take j.len j.bytes) (omega arith)
    (λ i h. let q = s.fits in get_d_places (overlaid rs) 0 (longest rs) i 0xFF (omega arith) ∙ ap (overlaid rs) (omega arith) ∙ sym (get_or-take j.len j.bytes i 0xFF (omega arith) ∙ s.and i (omega arith)))

-- a lone reply is overlaid by nothing
places_one : (r : List ℕ) → Bytes r → places (overlaid (r ∷ [])) 0 (length r) ≡ r
places_one r h =
    let p = length-places (overlaid (r ∷ [])) 0 (length r) in
    ext_get_or 0xFF (places (overlaid (r ∷ [])) 0 (length r)) r p
    (λ i l. get_d_places (overlaid (r ∷ [])) 0 (length r) i 0xFF (omega arith) ∙ ap (overlaid (r ∷ [])) (omega arith) ∙ and_FF (get_or r i 0xFF) (small_at r i h))

joined_as : (rs : List (List ℕ)) → Every Bytes rs → joined rs ≡ (if all_e5 rs then replicate (length rs) 0xE5 else places (overlaid rs) 0 (longest rs))
unfolding joined
joined_as [] h = refl
joined_as (r ∷ []) h = go (all_e5 (r ∷ [])) refl
  where
    go : (b : Bool) → all_e5 (r ∷ []) ≡ b → r ≡ (if b then 0xE5 ∷ [] else places (overlaid (r ∷ [])) 0 (max (length r) 0))
    go true e = sym (append-nil r) ∙ ends_acks (r ∷ []) e
    go false e = let z : max (length r) 0 ≡ length r = omega arith in sym (ap (places (overlaid (r ∷ [])) 0) z ∙ places_one r h.0)
joined_as (r ∷ q ∷ rs) h = go (all_e5 (r ∷ q ∷ rs)) refl
  where
    go : (b : Bool) → all_e5 (r ∷ q ∷ rs) ≡ b
        → (if b then end_to_end (r ∷ q ∷ rs) else places (overlaid (r ∷ q ∷ rs)) 0 (longest (r ∷ q ∷ rs))) ≡ (if b then replicate (length (r ∷ q ∷ rs)) 0xE5 else places (overlaid (r ∷ q ∷ rs)) 0 (longest (r ∷ q ∷ rs)))
    go true e = ends_acks (r ∷ q ∷ rs) e
    go false e = refl

module _ {rs : List (List ℕ)} {j : Joining} where
  pub joined_is : Joins rs j → joined rs ≡ bytes_kept j
  joined_is s = joined_as rs s.small ∙ rw (s.acks, s.count, sym (places_kept rs j s))

-- one E5 more
small_none : (n i : ℕ) → get_or (replicate n 0) i 0 < 256
small_none zero i = omega arith
small_none (suc n) zero = omega arith
small_none (suc n) (suc i) = small_none n i

-- what the two ways to join give
module _ {rs : List (List ℕ)} {j r : Joining} (few : j.count < 4096) (s : Joins rs j) where
  pub joins_acked : JoinsAck j r → Joins (rs ++ E5 ∷ []) r
  joins_acked o =
      let ack : List ℕ = 0xE5 ∷ replicate 95 0 in
      joins_more {bytes = ack} 1 {len = 1} {a = true} s (ap suc (length-replicate {A = ℕ} 95 0)) (omega arith, small_all (replicate 95 0) (λ i. small_none 95 i)) refl refl
      (subst (Overlays j.bytes ack 1) (sym o.bytes) (overlays_more overlays_none (omega (arith, s.room)) (omega arith) refl))
      (o.count ∙ count_more j.count few) (o.acks ∙ sym (and-true j.acks)) o.len

  pub joins_replied : {reply : Reply} → JoinsReply j reply r → Joins (rs ++ take reply.len reply.bytes ∷ []) r
  joins_replied {reply} o = joins_more reply.len s o.array.0 o.array.1 refl refl (o.bytes s.room) (o.count ∙ count_more j.count few) o.acks o.len

-- the replies that are added, said otherwise; and none
module _ {j : Joining} (rs : List (List ℕ)) where
  pub joins_as : {xs ys : List (List ℕ)} → xs ≡ ys → Joins (rs ++ xs) j → Joins (rs ++ ys) j
  joins_as e s = subst (λ x. Joins (rs ++ x) j) e s

  pub joins_still : Joins rs j → Joins (rs ++ []) j
  joins_still s = subst (λ x. Joins x j) (sym (append-nil rs)) s

-- how long the joined reply is
abbrev pub length_kept : Joining → ℕ
length_kept j = if j.acks then j.count else j.len

module _ {rs : List (List ℕ)} {j : Joining} where
  pub length_kept_lem : Joins rs j → length (bytes_kept j) ≡ length_kept j
  length_kept_lem s = go j.acks
    where
      go : (b : Bool) → length (if b then replicate j.count 0xE5 else take j.len j.bytes) ≡ (if b then j.count else j.len)
      go true = length-replicate j.count 0xE5
      go false = length-take-le j.len j.bytes (omega (arith, s.fits, s.room))
