-- Another bus baud in an image.
use mathlib.Core.Path.{◌≡◌, refl, sym, ap, ◌∙◌}
use mathlib.Core.List.{List, ◌++◌}
use Prim.Native.Nat.{ℕ, ◌+◌, ◌^◌, ◌≤◌, ◌<◌}
use native.Mathlib.Omega.{arith}
use lib.ListN.{length, take, drop}
use lib.Seq.{paste, length-paste, drop-paste, take_all}
use Rattle.numbers.specs.Values.{little}
use Rattle.numbers.specs.Number.{number}
use Rattle.numbers.proofs.NumberLaws.{number-little, number-drop}
use Rattle.segment.specs.Plain.{Plain}
use Rattle.segment_image.specs.Image.{decode_image, filled, encode_image}
use Rattle.segment_places.specs.ProgramBecomes.{Becomes}
use Rattle.segment_places.proofs.PlaceLaws.{input_short, queue_short}
use Rattle.segment.specs.Plain.{with_baud_value}
use Rattle.segment_places.proofs.PartLaws.{whole, Parts, head_of, meters_of_value, number_front, parts-mean, put-head, parts_are, parts_long, image_parts, image_parts_long}

little_four : (b : ℕ) → length (little 4 b) ≡ 4
unfolding little
little_four b = refl

module _ (l : List ℕ) (long : length l ≡ 5974) (b : ℕ) (small : b < 2 ^ 32) where
  abbrev set : List ℕ → List ℕ
  set x = paste x 0 (little 4 b) 4

  set_long : (x : List ℕ) → 4 ≤ length x → length (set x) ≡ length x
  set_long x h = length-paste x 0 (little 4 b) 4 h (omega (arith, little_four b))

  -- a number behind the baud
  number-set : (n p : ℕ) (h : List ℕ) → length h ≡ 14 → number n (4 + p) (set h) ≡ number n (4 + p) h
  number-set n p h e =
      number-drop n 4 p (set h) ∙ ap (number n p) (drop-paste h 0 (little 4 b) 4 (omega arith) (omega (arith, little_four b))) ∙ sym (number-drop n 4 p h)

  baud_set : (h : List ℕ) → number 4 0 (set h) ≡ b
  baud_set h =
      ap (λ x. number 4 0 (x ++ drop 4 h)) (take_all 4 (little 4 b) (omega (arith, little_four b)))
      ∙ number_front 4 0 (little 4 b) (drop 4 h) (omega (arith, little_four b))
      ∙ number-little 4 b (omega arith)

  set_means : decode_image (set l) ≡ with_baud_value b (decode_image l)
  set_means =
      let k = parts_long l long in
      let h = take 14 l in
      let m = parts-mean (drop 4374 l) k in
      let k' : Parts (set h) (take 2 (drop 14 l)) (take 2 (drop 16 l)) (take 260 (drop 18 l)) (take 4096 (drop 278 l)) =
      record { head_long = set_long h (omega (arith, k.head_long)) ∙ k.head_long; waiting_long = k.waiting_long; queued_long = k.queued_long; input_long = k.input_long; queue_long = k.queue_long } in
      ap (λ t. decode_image (set t)) (parts_are l)
      ∙ ap decode_image (put-head (drop 4374 l) k (little 4 b) 4 0 (omega arith))
      ∙ parts-mean (drop 4374 l) k'
      ∙ rw (baud_set h, number-set 8 0 h k.head_long, number-set 2 8 h k.head_long) (ap (with_baud_value b) (sym m ∙ ap decode_image (sym (parts_are l))))

  head-set : (s : Plain) → set (head_of s) ≡ head_of (with_baud_value b s)
  unfolding little
  head-set s = refl

  set_exact : l ≡ encode_image (decode_image l) → set l ≡ encode_image (with_baud_value b (decode_image l))
  set_exact e =
      let s = decode_image l in
      ap set (e ∙ image_parts s)
      ∙ put-head (meters_of_value s) (image_parts_long s (input_short l) (queue_short l)) (little 4 b) 4 0 (omega arith)
      ∙ ap (λ x. whole x (little 2 (length s.input)) (little 2 (length s.queue)) (filled 260 s.input) (filled 4096 s.queue) (meters_of_value s)) (head-set s)
      ∙ sym (image_parts (with_baud_value b s))

  pub baud_becomes : Becomes l (with_baud_value b (decode_image l)) (set l)
  baud_becomes = record { long = set_long l (omega arith); means = set_means; exact = set_exact }
