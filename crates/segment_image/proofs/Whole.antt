-- The whole image, part by part.
use mathlib.Core.Path.{◌≡◌, sym, ap, subst, ◌∙◌}
use mathlib.Core.List.{List, ◌++◌, map}
use Prim.Native.Nat.{ℕ, ◌+◌, ◌*◌, ◌≤◌, min}
use native.Mathlib.Omega.{arith}
use lib.Ieee.{Float, binary64, of_bits}
use lib.ListN.{length, take, drop, replicate, length-append, length-replicate}
use lib.Seq.{paste, length-paste, take_at, drop_at, take-take, length-take-le, take_all}
use Rattle.std.proofs.lemmas.List.{take_min}
use Rattle.laws.specs.Words.{each}
use Rattle.meter.specs.View.{plain_meter}
use Rattle.segment_image.specs.MeterBytes.{encode_meter}
use Rattle.list_open.specs.Opening.{capacity}
use Rattle.segment.specs.View.{plain_of}
use Rattle.segment.specs.declared.Segment.{Segment}
use Rattle.segment_image.specs.Image.{block, meters, decode_image, Head, head_bytes_value}
use Rattle.numbers.specs.Number.{number}
use Rattle.numbers.proofs.NumberLaws.{number-take}
use Rattle.segment_image.proofs.Blocks.{paste_before, paste-at, block_same}
use Rattle.segment_image.proofs.MeterLaws.{meters_front}

-- an image of a segment, if each part is
pub image_is : (s : Segment) (l : List ℕ) → number 4 0 l ≡ s.baud → of_bits binary64 (number 8 4 l) ≡ s.origin
    → block 18 (min (number 2 14 l) 260) l ≡ take s.waiting s.input
    → block 278 (min (number 2 16 l) 4096) l ≡ take s.queued s.queue
    → meters (min (number 2 12 l) capacity) (drop 4374 l) ≡ map plain_meter (take s.count s.meters)
    → decode_image l ≡ plain_of s
unfolding decode_image plain_of
image_is s l b o i q m = rw (b, o, i, q, m)

-- n is m, but no more than k
module _ (n m k : ℕ) (e : n ≡ min m k) where
  pub counted : min n k ≡ n
  counted = omega arith

  pub counted_most : n ≤ k
  counted_most = omega arith

  pub counted_all : {A : Type 0} (xs : List A) → length xs ≡ k → take n xs ≡ take m xs
  counted_all xs h = ap (λ (j : ℕ). take j xs) (e ∙ ap (min m) (sym h)) ∙ take_min m xs

-- the head is read from the first 18 bytes
head_of_lem : {b : ℕ} {o : Float} {c w q : ℕ} (l : List ℕ) → Head b o c w q (take 18 l) → Head b o c w q l
head_of_lem l h =
    record {
      baud_at = sym (number-take 4 0 18 l (omega arith)) ∙ h.baud_at;
      origin_at = ap (of_bits binary64) (sym (number-take 8 4 18 l (omega arith))) ∙ h.origin_at;
      count_at = sym (number-take 2 12 18 l (omega arith)) ∙ h.count_at;
      waiting_at = sym (number-take 2 14 18 l (omega arith)) ∙ h.waiting_at;
      queued_at = sym (number-take 2 16 18 l (omega arith)) ∙ h.queued_at;
    }

-- head, input and queue are copied over bytes 0, l₀, each behind the other, and then come the meters' bytes ms
pub record Copies (s : Segment) (c w q : ℕ) (head l₀ l₁ l₂ l₃ ms : List ℕ) : Type 0 where
  pub count_is : c ≡ min s.count capacity
  pub waiting_is : w ≡ min s.waiting 260
  pub queued_is : q ≡ min s.queued 4096
  pub input_long : length s.input ≡ 260
  pub queue_long : length s.queue ≡ 4096
  pub meters_long : length s.meters ≡ capacity
  pub blank : l₀ ≡ replicate (4374 + 25 * capacity) 0
  pub head_long : length head ≡ 18
  pub head_bytes : head ≡ head_bytes_value s.baud s.origin c w q
  pub head-is : Head s.baud s.origin c w q head
  pub first : l₁ ≡ paste l₀ 0 head 18
  pub second : l₂ ≡ paste l₁ 18 s.input w
  pub third : l₃ ≡ paste l₂ 278 s.queue q
  pub ms_long : length ms ≡ 25 * capacity
  pub rows_are : ms ≡ each (map plain_meter (take c s.meters)) encode_meter ++ drop (25 * c) (drop 4374 l₃)
  pub last : meters c ms ≡ map plain_meter (take c s.meters)

module _ {s : Segment} {c w q : ℕ} {head l₀ l₁ l₂ l₃ ms : List ℕ} (k : Copies s c w q head l₀ l₁ l₂ l₃ ms) where
  long : length l₀ ≡ 4374 + 25 * capacity
  long = ap length k.blank ∙ length-replicate (4374 + 25 * capacity) 0

  room₁ : 0 + 18 ≤ length l₀
  room₁ = omega (arith, long)

  long₁ : length l₁ ≡ length l₀
  long₁ = ap length k.first ∙ length-paste l₀ 0 head 18 room₁ (omega (arith, k.head_long))

  w_most : w ≤ 260
  w_most = counted_most w s.waiting 260 k.waiting_is

  q_most : q ≤ 4096
  q_most = counted_most q s.queued 4096 k.queued_is

  room₂ : 18 + w ≤ length l₁
  room₂ = omega (arith, long, long₁, w_most)

  long₂ : length l₂ ≡ length l₁
  long₂ = ap length k.second ∙ length-paste l₁ 18 s.input w room₂ (omega (arith, k.input_long, w_most))

  room₃ : 278 + q ≤ length l₂
  room₃ = omega (arith, long, long₁, long₂, q_most)

  long₃ : length l₃ ≡ length l₂
  long₃ = ap length k.third ∙ length-paste l₂ 278 s.queue q room₃ (omega (arith, k.queue_long, q_most))

  -- the image in the end
  module _ (end : List ℕ) where
    abbrev out : List ℕ
    out = take 4374 l₃ ++ (ms ++ end)

    most : 4374 ≤ length l₃
    most = omega (arith, long, long₁, long₂, long₃)

    most_out : 4374 ≤ length out
    most_out = rw (length-append (take 4374 l₃) (ms ++ end), length-take-le 4374 l₃ most) (omega arith)

    front : take 4374 out ≡ take 4374 l₃
    front = take_at (take 4374 l₃) (ms ++ end) 4374 (length-take-le 4374 l₃ most)

    back : drop 4374 out ≡ ms ++ end
    back = drop_at (take 4374 l₃) (ms ++ end) 4374 (length-take-le 4374 l₃ most)

    head_out : take 18 out ≡ head
    head_out =
        sym (take-take 18 4374 out (omega arith)) ∙ ap (take 18) front ∙ take-take 18 4374 l₃ (omega arith)
        ∙ ap (take 18) k.third ∙ paste_before l₂ 278 s.queue q room₃ 18 (omega arith)
        ∙ ap (take 18) k.second ∙ paste_before l₁ 18 s.input w room₂ 18 (omega arith)
        ∙ ap (take 18) k.first ∙ paste-at l₀ 0 head 18 room₁ (omega (arith, k.head_long))
        ∙ take_all 18 head (omega (arith, k.head_long))

    input_out : block 18 w out ≡ take w s.input
    input_out =
        block_same 18 w 4374 out l₃ front (omega (arith, w_most)) (omega (arith, w_most, most_out)) (omega (arith, w_most, most))
        ∙ block_same 18 w 278 l₃ l₂ (ap (take 278) k.third ∙ paste_before l₂ 278 s.queue q room₃ 278 (omega arith)) (omega (arith, w_most)) (omega (arith, w_most, most))
        (omega (arith, w_most, most, long₃))
        ∙ ap (block 18 w) k.second
        ∙ paste-at l₁ 18 s.input w room₂ (omega (arith, k.input_long, w_most))

    queue_out : block 278 q out ≡ take q s.queue
    queue_out =
        block_same 278 q 4374 out l₃ front (omega (arith, q_most)) (omega (arith, q_most, most_out)) (omega (arith, q_most, most))
        ∙ ap (block 278 q) k.third
        ∙ paste-at l₂ 278 s.queue q room₃ (omega (arith, k.queue_long, q_most))

    meters_out : meters c (drop 4374 out) ≡ map plain_meter (take c s.meters)
    meters_out = ap (meters c) back ∙ meters_front c ms end (omega (arith, k.ms_long, counted_most c s.count capacity k.count_is)) ∙ k.last

    pub copies : decode_image out ≡ plain_of s
    copies =
        let h = head_of_lem out (subst (Head s.baud s.origin c w q) (sym head_out) k.head-is) in
        image_is s out h.baud_at h.origin_at
        (ap (λ (n : ℕ). block 18 (min n 260) out) h.waiting_at ∙ ap (λ (n : ℕ). block 18 n out) (counted w s.waiting 260 k.waiting_is) ∙ input_out
        ∙ counted_all w s.waiting 260 k.waiting_is s.input k.input_long)
        (ap (λ (n : ℕ). block 278 (min n 4096) out) h.queued_at ∙ ap (λ (n : ℕ). block 278 n out) (counted q s.queued 4096 k.queued_is) ∙ queue_out
        ∙ counted_all q s.queued 4096 k.queued_is s.queue k.queue_long)
        (ap (λ (n : ℕ). meters (min n capacity) (drop 4374 out)) h.count_at ∙ ap (λ (n : ℕ). meters n (drop 4374 out)) (counted c s.count capacity k.count_is) ∙ meters_out
        ∙ ap (map plain_meter) (counted_all c s.count capacity k.count_is s.meters k.meters_long))
