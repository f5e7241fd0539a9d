-- The image of a segment as it is written, byte by byte.
use mathlib.Core.Path.{◌≡◌, refl, sym, ap, ◌∙◌}
use mathlib.Core.List.{List, [], ◌++◌, map, append-nil}
use Prim.Native.Nat.{ℕ, ◌+◌, ◌-◌, ◌*◌, ◌≤◌}
use native.Mathlib.Omega.{arith}
use lib.ListN.{length, take, drop, replicate, length-append, length-map}
use lib.Seq.{paste, take_at, drop_at, take_all, length-take-le}
use Rattle.laws.specs.Words.{each}
use Rattle.laws.proofs.Rows.{length_rows}
use Rattle.meter.specs.PlainMeter.{PlainMeter}
use Rattle.meter.specs.View.{plain_meter}
use Rattle.segment_image.specs.MeterBytes.{encode_meter}
use Rattle.segment_image.proofs.MeterByteLaws.{meter_long}
use Rattle.list_open.specs.Opening.{capacity}
use Rattle.segment.specs.View.{plain_of}
use Rattle.segment.specs.declared.Segment.{Segment}
use Rattle.segment_image.specs.Image.{head_bytes_value, filled, encode_image}
use Rattle.segment_image.proofs.Filled.{drop_zeros, length-filled, filled-whole, paste-filled}
use Rattle.segment_image.proofs.Whole.{Copies, counted_most, counted_all}

module _ {s : Segment} {c w q : ℕ} {head l₀ l₁ l₂ l₃ ms : List ℕ} (k : Copies s c w q head l₀ l₁ l₂ l₃ ms) where
  w_most : w ≤ 260
  w_most = counted_most w s.waiting 260 k.waiting_is

  q_most : q ≤ 4096
  q_most = counted_most q s.queued 4096 k.queued_is

  c_most : c ≤ capacity
  c_most = counted_most c s.count capacity k.count_is

  abbrev input : List ℕ
  input = take w s.input

  abbrev queue : List ℕ
  queue = take q s.queue

  abbrev meters : List PlainMeter
  meters = map plain_meter (take c s.meters)

  input_long : length input ≡ w
  input_long = length-take-le w s.input (omega (arith, w_most, k.input_long))

  queue_long : length queue ≡ q
  queue_long = length-take-le q s.queue (omega (arith, q_most, k.queue_long))

  meters_long : length meters ≡ c
  meters_long = length-map (take c s.meters) plain_meter ∙ length-take-le c s.meters (omega (arith, c_most, k.meters_long))

  -- ---- after each copy

  first-is : l₁ ≡ head ++ replicate (260 + (4096 + 25 * capacity)) 0
  first-is =
      let e : 4374 + 25 * capacity ≡ 18 + (260 + (4096 + 25 * capacity)) = omega arith in
      k.first
      ∙ ap (λ (l : List ℕ). paste l 0 head 18) (k.blank ∙ ap (λ (n : ℕ). replicate n 0) e)
      ∙ paste-filled [] head 18 18 (260 + (4096 + 25 * capacity)) 0 refl (omega arith) (omega (arith, k.head_long))
      ∙ ap (λ (x : List ℕ). filled 18 x ++ replicate (260 + (4096 + 25 * capacity)) 0) (take_all 18 head (omega (arith, k.head_long)))
      ∙ ap (λ (x : List ℕ). x ++ replicate (260 + (4096 + 25 * capacity)) 0) (filled-whole 18 head k.head_long)

  second_is : l₂ ≡ head ++ filled 260 input ++ replicate (4096 + 25 * capacity) 0
  second_is =
      k.second ∙ ap (λ (l : List ℕ). paste l 18 s.input w) first-is
      ∙ paste-filled head s.input w 260 (4096 + 25 * capacity) 18 k.head_long w_most (omega (arith, w_most, k.input_long))

  second_long : length (head ++ filled 260 input) ≡ 278
  second_long = length-append head (filled 260 input) ∙ omega (arith, k.head_long, length-filled 260 input (omega (arith, input_long, w_most)))

  third_is : l₃ ≡ head ++ filled 260 input ++ filled 4096 queue ++ replicate (25 * capacity) 0
  third_is =
      k.third ∙ ap (λ (l : List ℕ). paste l 278 s.queue q) second_is
      ∙ paste-filled (head ++ filled 260 input) s.queue q 4096 (25 * capacity) 278 second_long q_most (omega (arith, q_most, k.queue_long))

  third_long : length (head ++ filled 260 input ++ filled 4096 queue) ≡ 4374
  third_long = length-append (head ++ filled 260 input) (filled 4096 queue) ∙ omega (arith, second_long, length-filled 4096 queue (omega (arith, queue_long, q_most)))

  back_is : drop 4374 l₃ ≡ replicate (25 * capacity) 0
  back_is = ap (drop 4374) third_is ∙ drop_at (head ++ filled 260 input ++ filled 4096 queue) (replicate (25 * capacity) 0) 4374 third_long

  front_is : take 4374 l₃ ≡ head ++ filled 260 input ++ filled 4096 queue
  front_is = ap (take 4374) third_is ∙ take_at (head ++ filled 260 input ++ filled 4096 queue) (replicate (25 * capacity) 0) 4374 third_long

  meters_are : ms ≡ filled (25 * capacity) (each meters encode_meter)
  meters_are =
      let r : length (each meters encode_meter) ≡ 25 * c = length_rows encode_meter 25 meter_long meters ∙ ap (λ (n : ℕ). 25 * n) meters_long in
      k.rows_are
      ∙ ap (λ (l : List ℕ). each meters encode_meter ++ drop (25 * c) l) back_is
      ∙ ap (λ (l : List ℕ). each meters encode_meter ++ l) (drop_zeros (25 * c) (25 * capacity) (omega (arith, c_most)))
      ∙ ap (λ (n : ℕ). each meters encode_meter ++ replicate (25 * capacity - n) 0) (sym r)

  -- ---- the parts are the segment's

  abbrev parts : ℕ → ℕ → ℕ → List ℕ → List ℕ → List PlainMeter → List ℕ
  parts c w q is qs ms = head_bytes_value s.baud s.origin c w q ++ filled 260 is ++ filled 4096 qs ++ filled (25 * capacity) (each ms encode_meter)

  pub exact : (end : List ℕ) → end ≡ [] → take 4374 l₃ ++ (ms ++ end) ≡ encode_image (plain_of s)
  unfolding encode_image plain_of
  exact end none =
      let i : input ≡ take s.waiting s.input = counted_all w s.waiting 260 k.waiting_is s.input k.input_long in
      let j : queue ≡ take s.queued s.queue = counted_all q s.queued 4096 k.queued_is s.queue k.queue_long in
      let m : meters ≡ map plain_meter (take s.count s.meters) = ap (map plain_meter) (counted_all c s.count capacity k.count_is s.meters k.meters_long) in
      ap (λ (x : List ℕ). take 4374 l₃ ++ (ms ++ x)) none
      ∙ ap (λ (x : List ℕ). take 4374 l₃ ++ x) (append-nil ms ∙ meters_are)
      ∙ ap (λ (x : List ℕ). x ++ filled (25 * capacity) (each meters encode_meter)) (front_is ∙ ap (λ (x : List ℕ). x ++ filled 260 input ++ filled 4096 queue) k.head_bytes)
      ∙ ap (λ (n : ℕ). parts n w q input queue meters) (sym meters_long)
      ∙ ap (λ (n : ℕ). parts (length meters) n q input queue meters) (sym input_long)
      ∙ ap (λ (n : ℕ). parts (length meters) (length input) n input queue meters) (sym queue_long)
      ∙ ap (λ (x : List ℕ). parts (length meters) (length x) (length queue) x queue meters) i
      ∙ ap (λ (x : List ℕ). parts (length meters) (length (take s.waiting s.input)) (length x) (take s.waiting s.input) x meters) j
      ∙ ap (λ (x : List PlainMeter). parts (length x) (length (take s.waiting s.input)) (length (take s.queued s.queue)) (take s.waiting s.input) (take s.queued s.queue) x) m
