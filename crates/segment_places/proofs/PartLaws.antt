-- An image by its parts, and bytes put over one of them.
use mathlib.Core.Path.{◌≡◌, refl, sym, ap, ap₂, ◌∙◌}
use mathlib.Core.List.{List, ◌++◌, append_assoc}
use Prim.Native.Nat.{ℕ, ◌+◌, ◌*◌, ◌≤◌, min}
use native.Mathlib.Omega.{arith}
use lib.Ieee.{binary64, to_bits, of_bits}
use lib.ListN.{length, take, drop, length-drop, take-append-drop}
use lib.Seq.{paste, take-append-le, drop-append-le, take_all, take_at, drop_at, drop-drop, length-take-le}
use Rattle.laws.specs.Words.{each}
use Rattle.numbers.specs.Values.{little}
use Rattle.segment_image.specs.MeterBytes.{encode_meter}
use Rattle.list_open.specs.Opening.{capacity}
use Rattle.numbers.specs.Number.{number}
use Rattle.numbers.proofs.NumberLaws.{number-take, number-drop}
use Rattle.segment.specs.Plain.{Plain}
use Rattle.segment_image.specs.Image.{meters, decode_image, head_bytes_value, filled, encode_image}
use Rattle.segment_image.proofs.Filled.{length-filled}
use Rattle.segment_places.proofs.PlaceLaws.{paste_behind, decode_image-by}

-- ---- lists

-- a copy into the first of two lists
paste-within : (f r s : List ℕ) (p n : ℕ) → p + n ≤ length f → paste (f ++ r) p s n ≡ paste f p s n ++ r
paste-within f r s p n h =
    ap₂ (λ x y. x ++ take n s ++ y) (take-append-le p f r (omega arith)) (drop-append-le (p + n) f r h)
    ∙ sym (append_assoc (take p f ++ take n s) (drop (p + n) f) r)

-- a copy over the first two
over_two : (f r s : List ℕ) → length f ≡ 2 → length s ≡ 2 → paste (f ++ r) 0 s 2 ≡ s ++ r
over_two f r s e g = ap₂ (λ x y. x ++ y) (take_all 2 s (omega arith)) (drop_at f r 2 e)

-- a number behind some bytes
pub number_front : (n p : ℕ) (f r : List ℕ) → p + n ≤ length f → number n p (f ++ r) ≡ number n p f
number_front n p f r h =
    sym (number-take n p (length f) (f ++ r) h) ∙ ap (number n p) (take_at f r (length f) refl)

-- ---- the parts

-- baud, origin and count; the numbers of bytes that wait and that are queued; the input, the queue, the meters
abbrev pub whole : List ℕ → List ℕ → List ℕ → List ℕ → List ℕ → List ℕ → List ℕ
whole h w q i qs ms = h ++ (w ++ (q ++ (i ++ (qs ++ ms))))

pub record Parts (h w q i qs : List ℕ) : Type 0 where
  pub head_long : length h ≡ 14
  pub waiting_long : length w ≡ 2
  pub queued_long : length q ≡ 2
  pub input_long : length i ≡ 260
  pub queue_long : length qs ≡ 4096

module _ {h w q i qs : List ℕ} (ms : List ℕ) (k : Parts h w q i qs) where
  abbrev l : List ℕ
  l = whole h w q i qs ms

  from_14 : drop 14 l ≡ w ++ (q ++ (i ++ (qs ++ ms)))
  from_14 = drop_at h (w ++ (q ++ (i ++ (qs ++ ms)))) 14 k.head_long

  from_16 : drop 16 l ≡ q ++ (i ++ (qs ++ ms))
  from_16 = sym (drop-drop 2 14 l) ∙ ap (drop 2) from_14 ∙ drop_at w (q ++ (i ++ (qs ++ ms))) 2 k.waiting_long

  from_18 : drop 18 l ≡ i ++ (qs ++ ms)
  from_18 = sym (drop-drop 2 16 l) ∙ ap (drop 2) from_16 ∙ drop_at q (i ++ (qs ++ ms)) 2 k.queued_long

  pub from_278 : drop 278 l ≡ qs ++ ms
  from_278 = sym (drop-drop 260 18 l) ∙ ap (drop 260) from_18 ∙ drop_at i (qs ++ ms) 260 k.input_long

  from_4374 : drop 4374 l ≡ ms
  from_4374 = sym (drop-drop 4096 278 l) ∙ ap (drop 4096) from_278 ∙ drop_at qs ms 4096 k.queue_long

  waiting_is : number 2 14 l ≡ number 2 0 w
  waiting_is = number-drop 2 14 0 l ∙ ap (number 2 0) from_14 ∙ number_front 2 0 w _ (omega (arith, k.waiting_long))

  queued_is : number 2 16 l ≡ number 2 0 q
  queued_is = number-drop 2 16 0 l ∙ ap (number 2 0) from_16 ∙ number_front 2 0 q _ (omega (arith, k.queued_long))

  -- what they mean
  pub parts-mean : decode_image l
      ≡ record {
        baud = number 4 0 h;
        origin = of_bits binary64 (number 8 4 h);
        input = take (min (number 2 0 w) 260) i;
        queue = take (min (number 2 0 q) 4096) qs;
        meters = meters (min (number 2 12 h) capacity) ms;
      }
  parts-mean =
      decode_image-by _ l (number_front 4 0 h _ (omega (arith, k.head_long))) (ap (of_bits binary64) (number_front 8 4 h _ (omega (arith, k.head_long))))
      (ap₂ (λ n x. take (min n 260) x) waiting_is from_18 ∙ take-append-le (min (number 2 0 w) 260) i (qs ++ ms) (omega (arith, k.input_long)))
      (ap₂ (λ n x. take (min n 4096) x) queued_is from_278 ∙ take-append-le (min (number 2 0 q) 4096) qs ms (omega (arith, k.queue_long)))
      (ap₂ (λ n x. meters (min n capacity) x) (number_front 2 12 h _ (omega (arith, k.head_long))) from_4374)

  -- bytes put over one part
  pub put_waiting : (s : List ℕ) → length s ≡ 2 → paste l 14 s 2 ≡ whole h s q i qs ms
  put_waiting s e = paste_behind s 2 h _ 14 0 k.head_long ∙ ap (λ x. h ++ x) (over_two w _ s k.waiting_long e)

  pub put_queued : (s : List ℕ) → length s ≡ 2 → paste l 16 s 2 ≡ whole h w s i qs ms
  put_queued s e =
      paste_behind s 2 h _ 14 2 k.head_long
      ∙ ap (λ x. h ++ x) (paste_behind s 2 w _ 2 0 k.waiting_long ∙ ap (λ x. w ++ x) (over_two q _ s k.queued_long e))

  module _ (s : List ℕ) (n p : ℕ) where
    pub put-head : p + n ≤ 14 → paste l p s n ≡ whole (paste h p s n) w q i qs ms
    put-head e = paste-within h _ s p n (omega (arith, k.head_long))

    pub put_input_lem : p + n ≤ 260 → paste l (18 + p) s n ≡ whole h w q (paste i p s n) qs ms
    put_input_lem e =
        let a : 18 + p ≡ 14 + (2 + (2 + p)) = omega arith in
        ap (λ x. paste l x s n) a
        ∙ paste_behind s n h _ 14 (2 + (2 + p)) k.head_long
        ∙ ap (λ x. h ++ x)
        (paste_behind s n w _ 2 (2 + p) k.waiting_long
        ∙ ap (λ x. w ++ x) (paste_behind s n q _ 2 p k.queued_long ∙ ap (λ x. q ++ x) (paste-within i (qs ++ ms) s p n (omega (arith, k.input_long)))))

    pub put_queue : p + n ≤ 4096 → paste l (278 + p) s n ≡ whole h w q i (paste qs p s n) ms
    put_queue e =
        let a : 278 + p ≡ 14 + (2 + (2 + (260 + p))) = omega arith in
        ap (λ x. paste l x s n) a
        ∙ paste_behind s n h _ 14 (2 + (2 + (260 + p))) k.head_long
        ∙ ap (λ x. h ++ x)
        (paste_behind s n w _ 2 (2 + (260 + p)) k.waiting_long
        ∙ ap (λ x. w ++ x)
        (paste_behind s n q _ 2 (260 + p) k.queued_long
        ∙ ap (λ x. q ++ x) (paste_behind s n i _ 260 p k.input_long ∙ ap (λ x. i ++ x) (paste-within qs ms s p n (omega (arith, k.queue_long))))))

-- ---- the parts of any image, and of a segment's

cut : (k n : ℕ) (l : List ℕ) → drop k l ≡ take n (drop k l) ++ drop (k + n) l
cut k n l = sym (take-append-drop n (drop k l)) ∙ ap (λ x. take n (drop k l) ++ x) (drop-drop n k l)

pub parts_are : (l : List ℕ) → l ≡ whole (take 14 l) (take 2 (drop 14 l)) (take 2 (drop 16 l)) (take 260 (drop 18 l)) (take 4096 (drop 278 l)) (drop 4374 l)
parts_are l =
    cut 0 14 l
    ∙ ap (λ x. take 14 l ++ x)
    (cut 14 2 l
    ∙ ap (λ x. take 2 (drop 14 l) ++ x)
    (cut 16 2 l ∙ ap (λ x. take 2 (drop 16 l) ++ x) (cut 18 260 l ∙ ap (λ x. take 260 (drop 18 l) ++ x) (cut 278 4096 l))))

pub parts_long : (l : List ℕ) → length l ≡ 5974 → Parts (take 14 l) (take 2 (drop 14 l)) (take 2 (drop 16 l)) (take 260 (drop 18 l)) (take 4096 (drop 278 l))
parts_long l e =
    let some : (k n : ℕ) → k + n ≤ 5974 → length (take n (drop k l)) ≡ n = λ k n h. length-take-le n (drop k l) (rw length-drop (omega arith)) in
    record {
      head_long = some 0 14 (omega arith);
      waiting_long = some 14 2 (omega arith);
      queued_long = some 16 2 (omega arith);
      input_long = some 18 260 (omega arith);
      queue_long = some 278 4096 (omega arith);
    }

pub queued_at : (l : List ℕ) → length l ≡ 5974 → number 2 16 l ≡ number 2 0 (take 2 (drop 16 l))
queued_at l e = number-drop 2 16 0 l ∙ sym (number-take 2 0 2 (drop 16 l) (omega arith))

-- the first 14 bytes of a segment's image, and the last
abbrev pub head_of : Plain → List ℕ
head_of s = little 4 s.baud ++ little 8 (to_bits binary64 s.origin) ++ little 2 (length s.meters)

abbrev pub meters_of_value : Plain → List ℕ
meters_of_value s = filled (25 * capacity) (each s.meters encode_meter)

pub image_parts : (s : Plain) → encode_image s ≡ whole (head_of s) (little 2 (length s.input)) (little 2 (length s.queue)) (filled 260 s.input) (filled 4096 s.queue) (meters_of_value s)
unfolding encode_image head_bytes_value
image_parts s = simp append_assoc

pub little_two : (n : ℕ) → length (little 2 n) ≡ 2
unfolding little
little_two n = refl

pub image_parts_long : (s : Plain) → length s.input ≤ 260 → length s.queue ≤ 4096
    → Parts (head_of s) (little 2 (length s.input)) (little 2 (length s.queue)) (filled 260 s.input) (filled 4096 s.queue)
image_parts_long s a b =
    record {
      head_long = unfold little in refl;
      waiting_long = little_two (length s.input);
      queued_long = little_two (length s.queue);
      input_long = length-filled 260 s.input a;
      queue_long = length-filled 4096 s.queue b;
    }
