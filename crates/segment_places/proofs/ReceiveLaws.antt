-- Another queue in an image, of which bytes are gone.
use mathlib.Core.Path.{◌≡◌, refl, sym, ap, ap₂, ◌∙◌}
use mathlib.Core.List.{List, [], ◌++◌, append_assoc}
use Prim.Native.Nat.{ℕ, ◌+◌, ◌-◌, ◌≤◌, min}
use native.Mathlib.Nat.{zero-add}
use native.Mathlib.Omega.{arith}
use lib.ListN.{length, take, drop, length-drop, length-replicate, replicate-append-replicate}
use lib.Seq.{paste, length-paste, take-paste, drop-paste, take_all, take_at, drop_at, drop-drop, drop-append-le, take-append-le, take-take, take-length}
use Rattle.numbers.specs.Values.{little}
use Rattle.std.proofs.lemmas.List.{drop-take}
use Rattle.numbers.specs.Number.{number}
use Rattle.numbers.proofs.NumberLaws.{number-little}
use Rattle.segment.specs.Plain.{with_queue}
use Rattle.segment_image.specs.Image.{decode_image, filled, encode_image}
use Rattle.segment_image.proofs.Blocks.{paste_before}
use Rattle.segment_image.proofs.Filled.{length-filled}
use Rattle.segment_places.specs.ProgramBecomes.{Becomes}
use Rattle.segment_places.proofs.PlaceLaws.{input_short, queue_short, queue_count}
use Rattle.segment_places.proofs.PartLaws.{whole, Parts, head_of, meters_of_value, parts-mean, put_queued, put_queue, parts_are, parts_long, queued_at, image_parts, image_parts_long, little_two, from_278}
use Rattle.segment_places.proofs.QueueLaws.{zeros, other_queue}

-- the queue's bytes qs become f qs, of which the first m are the new queue
module _ (l : List ℕ) (long : length l ≡ 5974) (change f : List ℕ → List ℕ) (m : ℕ) (new : List ℕ)
    (still : length (change l) ≡ length l)
    (over : (h v x i qs ms : List ℕ) → Parts h v x i qs → change (whole h v x i qs ms) ≡ whole h v (little 2 m) i (f qs) ms)
    (f-long : (qs : List ℕ) → length qs ≡ 4096 → length (f qs) ≡ 4096)
    (first : (qs : List ℕ) → length qs ≡ 4096 → take (length (decode_image l).queue) qs ≡ (decode_image l).queue → take m (f qs) ≡ new)
    (clean : f (filled 4096 (decode_image l).queue) ≡ filled 4096 new)
    (is : m ≡ length new)
    (few : m ≤ 4096) where
  requeue_means : decode_image (change l) ≡ with_queue new (decode_image l)
  requeue_means =
      let k = parts_long l long in
      let qs = take 4096 (drop 278 l) in
      let p = parts-mean (drop 4374 l) k in
      let k' : Parts (take 14 l) (take 2 (drop 14 l)) (little 2 m) (take 260 (drop 18 l)) (f qs) = other_queue k (little_two m) (f-long qs k.queue_long) in
      let before : take (length (decode_image l).queue) qs ≡ (decode_image l).queue =
      ap (λ j. take j qs) (queue_count l long ∙ ap (λ j. min j 4096) (queued_at l long)) ∙ sym (ap (λ t. (decode_image t).queue) (parts_are l) ∙ ap (λ t. t.queue) p) in
      let back : min (number 2 0 (little 2 m)) 4096 ≡ m = ap (λ j. min j 4096) (number-little 2 m (omega arith)) ∙ omega arith in
      ap (λ t. decode_image (change t)) (parts_are l)
      ∙ ap decode_image (over _ _ _ _ _ (drop 4374 l) k)
      ∙ parts-mean (drop 4374 l) k'
      ∙ ap₂ (λ u t. with_queue u t) (ap (λ j. take j (f qs)) back ∙ first qs k.queue_long before) (sym p ∙ ap decode_image (sym (parts_are l)))

  requeue_exact : l ≡ encode_image (decode_image l) → change l ≡ encode_image (with_queue new (decode_image l))
  requeue_exact e =
      let s = decode_image l in
      ap change (e ∙ image_parts s)
      ∙ over _ _ _ _ _ _ (image_parts_long s (input_short l) (queue_short l))
      ∙ ap₂ (λ u v. whole (head_of s) (little 2 (length s.input)) u (filled 260 s.input) v (meters_of_value s)) (ap (little 2) is) clean
      ∙ sym (image_parts (with_queue new s))

  requeue : Becomes l (with_queue new (decode_image l)) (change l)
  requeue = record { long = still; means = requeue_means; exact = requeue_exact }

zeros_long : (n : ℕ) → length (zeros n) ≡ n
zeros_long n = length-replicate {A = ℕ} n 0

-- ---- clear

module _ (l : List ℕ) (long : length l ≡ 5974) (q : ℕ) (is : q ≡ length (decode_image l).queue) where
  few : q ≤ 4096
  few = omega (arith, queue_short l)

  abbrev cleared : List ℕ → List ℕ
  cleared x = paste (paste x 278 (zeros q) q) 16 (little 2 0) 2

  cleared_long : length (cleared l) ≡ length l
  cleared_long =
      let a : length (paste l 278 (zeros q) q) ≡ length l = length-paste l 278 (zeros q) q (omega (arith, few)) (omega (arith, zeros_long q)) in
      length-paste (paste l 278 (zeros q) q) 16 (little 2 0) 2 (omega arith) (omega (arith, little_two 0)) ∙ a

  blank_long : (qs : List ℕ) → length qs ≡ 4096 → length (paste qs 0 (zeros q) q) ≡ 4096
  blank_long qs e = length-paste qs 0 (zeros q) q (omega (arith, few)) (omega (arith, zeros_long q)) ∙ e

  cleared_over : (h v x i qs ms : List ℕ) → Parts h v x i qs → cleared (whole h v x i qs ms) ≡ whole h v (little 2 0) i (paste qs 0 (zeros q) q) ms
  cleared_over h v x i qs ms k =
      let k' : Parts h v x i (paste qs 0 (zeros q) q) = other_queue k k.queued_long (blank_long qs k.queue_long) in
      ap (λ y. paste y 16 (little 2 0) 2) (put_queue ms k (zeros q) q 0 (omega (arith, few))) ∙ put_queued ms k' (little 2 0) (little_two 0)

  cleared_clean : paste (filled 4096 (decode_image l).queue) 0 (zeros q) q ≡ filled 4096 []
  cleared_clean =
      let qs = (decode_image l).queue in
      let all : q + (4096 - length qs) ≡ 4096 = omega (arith, queue_short l) in
      ap₂ (λ x y. x ++ y) (take_all q (zeros q) (omega (arith, zeros_long q)))
      (ap (λ j. drop j (filled 4096 qs)) (zero-add q) ∙ drop_at qs (zeros (4096 - length qs)) q (sym is))
      ∙ replicate-append-replicate q (4096 - length qs) 0 ∙ ap zeros all

  pub clear_becomes : Becomes l (with_queue [] (decode_image l)) (cleared l)
  clear_becomes = requeue l long cleared (λ qs. paste qs 0 (zeros q) q) 0 [] cleared_long cleared_over blank_long (λ qs e f. refl) cleared_clean refl (omega arith)

-- ---- the first bytes handed out

module _ (l : List ℕ) (long : length l ≡ 5974) (q n : ℕ) (is : q ≡ length (decode_image l).queue) (within : n ≤ q) where
  most : q ≤ 4096
  most = omega (arith, queue_short l)

  abbrev shorter : List ℕ → List ℕ
  shorter x = paste (paste (paste x 278 (drop (278 + n) x) (q - n)) (278 + (q - n)) (zeros n) n) 16 (little 2 (q - n)) 2

  -- the queue's bytes moved up, and those behind them
  abbrev moved : List ℕ → List ℕ
  moved qs = paste qs 0 (drop n qs) (q - n)

  abbrev blanked : List ℕ → List ℕ
  blanked qs = paste (moved qs) (q - n) (zeros n) n

  shorter_long : length (shorter l) ≡ length l
  shorter_long =
      let x = paste l 278 (drop (278 + n) l) (q - n) in
      let a : length x ≡ length l = length-paste l 278 (drop (278 + n) l) (q - n) (omega (arith, most)) (rw length-drop (omega (arith, most))) in
      let y = paste x (278 + (q - n)) (zeros n) n in
      let b : length y ≡ length x = length-paste x (278 + (q - n)) (zeros n) n (omega (arith, most)) (omega (arith, zeros_long n)) in
      length-paste y 16 (little 2 (q - n)) 2 (omega arith) (omega (arith, little_two (q - n))) ∙ b ∙ a

  module _ (qs : List ℕ) (e : length qs ≡ 4096) where
    rest_long : q - n ≤ length (drop n qs)
    rest_long = rw length-drop (omega (arith, most))

    moved_long : length (moved qs) ≡ 4096
    moved_long = length-paste qs 0 (drop n qs) (q - n) (omega (arith, most)) rest_long ∙ e

    blanked_long : length (blanked qs) ≡ 4096
    blanked_long = length-paste (moved qs) (q - n) (zeros n) n (omega (arith, moved_long, most)) (omega (arith, zeros_long n)) ∙ moved_long

    moved_first : take q qs ≡ (decode_image l).queue → take (q - n) (moved qs) ≡ drop n (decode_image l).queue
    moved_first f =
        let a : q - n ≡ 0 + (q - n) = omega arith in
        let b : n + (q - n) ≡ q = omega arith in
        ap (λ j. take j (moved qs)) a
        ∙ take-paste qs 0 (drop n qs) (q - n) (omega arith) rest_long
        ∙ sym (drop-take n (q - n) qs)
        ∙ ap (λ j. drop n (take j qs)) b
        ∙ ap (drop n) f

    blanked_first : take (length (decode_image l).queue) qs ≡ (decode_image l).queue → take (q - n) (blanked qs) ≡ drop n (decode_image l).queue
    blanked_first f =
        paste_before (moved qs) (q - n) (zeros n) n (omega (arith, moved_long, most)) (q - n) (omega arith) ∙ moved_first (ap (λ j. take j qs) is ∙ f)

    moved_rest : drop (q - n + n) (moved qs) ≡ drop q qs
    moved_rest =
        let a : q - n ≡ 0 + (q - n) = omega arith in
        let b : q - n + n ≡ q = omega arith in
        sym (drop-drop n (q - n) (moved qs))
        ∙ ap (λ j. drop n (drop j (moved qs))) a
        ∙ ap (drop n) (drop-paste qs 0 (drop n qs) (q - n) (omega arith) rest_long ∙ ap (λ j. drop j qs) (sym a))
        ∙ drop-drop n (q - n) qs
        ∙ ap (λ j. drop j qs) b

  shorter_over : (h v x i qs ms : List ℕ) → Parts h v x i qs → shorter (whole h v x i qs ms) ≡ whole h v (little 2 (q - n)) i (blanked qs) ms
  shorter_over h v x i qs ms k =
      let w = whole h v x i qs ms in
      let e = k.queue_long in
      let behind : drop (278 + n) w ≡ drop n qs ++ ms = sym (drop-drop n 278 w) ∙ ap (drop n) (from_278 ms k) ∙ drop-append-le n qs ms (omega (arith, e, most)) in
      let same : paste qs 0 (drop (278 + n) w) (q - n) ≡ moved qs =
      ap (λ y. take (q - n) y ++ drop (0 + (q - n)) qs) behind ∙ ap (λ y. y ++ drop (0 + (q - n)) qs) (take-append-le (q - n) (drop n qs) ms (rest_long qs e)) in
      let k₁ : Parts h v x i (moved qs) = other_queue k k.queued_long (moved_long qs e) in
      let k₂ : Parts h v x i (blanked qs) = other_queue k k.queued_long (blanked_long qs e) in
      ap (λ y. paste (paste y (278 + (q - n)) (zeros n) n) 16 (little 2 (q - n)) 2) (put_queue ms k (drop (278 + n) w) (q - n) 0 (omega (arith, most)) ∙ ap (λ y. whole h v x i y ms) same)
      ∙ ap (λ y. paste y 16 (little 2 (q - n)) 2) (put_queue ms k₁ (zeros n) n (q - n) (omega (arith, most)))
      ∙ put_queued ms k₂ (little 2 (q - n)) (little_two (q - n))

  shorter_clean : blanked (filled 4096 (decode_image l).queue) ≡ filled 4096 (drop n (decode_image l).queue)
  shorter_clean =
      let s = (decode_image l).queue in
      let qs = filled 4096 s in
      let e : length qs ≡ 4096 = length-filled 4096 s (queue_short l) in
      let d : 4096 - length (drop n s) ≡ n + (4096 - length s) = rw length-drop (omega (arith, queue_short l)) in
      ap₂ (λ x y. x ++ take n (zeros n) ++ y) (moved_first qs e (take_at s (zeros (4096 - length s)) q (sym is))) (moved_rest qs e ∙ drop_at s (zeros (4096 - length s)) q (sym is))
      ∙ ap (λ y. drop n s ++ y ++ zeros (4096 - length s)) (take_all n (zeros n) (omega (arith, zeros_long n)))
      ∙ append_assoc (drop n s) (zeros n) (zeros (4096 - length s))
      ∙ ap (λ y. drop n s ++ y) (replicate-append-replicate n (4096 - length s) 0 ∙ ap zeros (sym d))

  pub take_becomes : Becomes l (with_queue (drop n (decode_image l).queue) (decode_image l)) (shorter l)
  take_becomes =
      requeue l long shorter blanked (q - n) (drop n (decode_image l).queue) shorter_long shorter_over blanked_long blanked_first shorter_clean
      (rw length-drop (omega arith)) (omega (arith, most))

-- the bytes handed out, as a part of the image
pub out_is : (l : List ℕ) (n : ℕ) → length l ≡ 5974 → n ≤ length (decode_image l).queue → take (278 + n - 278) (drop 278 l) ≡ take n (decode_image l).queue
unfolding decode_image
out_is l n long h =
    let d : 278 + n - 278 ≡ n = omega arith in
    ap (λ k. take k (drop 278 l)) d ∙ sym (take-take n (min (number 2 16 l) 4096) (drop 278 l) (omega (arith, queue_count l long)))

-- at the front of what is lent
pub lent_is : (lent s : List ℕ) (n : ℕ) → length s ≡ n → paste lent 0 s (length s) ≡ s ++ drop n lent
lent_is lent s n e = ap₂ (λ x k. x ++ drop k lent) (take-length s) (zero-add (length s) ∙ e)
