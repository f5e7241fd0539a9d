-- The parts of an image, and one meter's bytes put over it: what changes, and what does not.
use mathlib.Core.Path.{◌≡◌, refl, sym, ap, ap₂, ◌∙◌}
use mathlib.Core.List.{List, [], ◌∷◌, ◌++◌, append_assoc}
use Prim.Native.Nat.{ℕ, zero, suc, ◌+◌, ◌-◌, ◌*◌, ◌≤◌, ◌<◌, min}
use native.Mathlib.Omega.{arith}
use lib.Ieee.{Float, binary64, of_bits}
use lib.ListN.{length, take, drop, set, get_or, replicate, length-append, length-drop, length-take, length-set}
use lib.Seq.{paste, length-paste, drop-append-le, take-append-add, drop-append-add, take_all, take_at, drop_at, drop-drop, length-take-le, take-nil}
use Rattle.std.proofs.lemmas.List.{drop-take, drop_all}
use Rattle.laws.specs.Words.{each}
use Rattle.laws.proofs.Rows.{length_rows}
use Rattle.numbers.specs.Values.{little}
use Rattle.meter.specs.PlainMeter.{PlainMeter}
use Rattle.segment_image.specs.MeterBytes.{decode_meter, whole_meter, encode_meter}
use Rattle.segment_image.proofs.MeterByteLaws.{meter_long}
use Rattle.list_open.specs.Opening.{capacity}
use Rattle.numbers.specs.Number.{number}
use Rattle.numbers.proofs.NumberLaws.{number-take}
use Rattle.segment.specs.Plain.{Plain, with_meters}
use Rattle.segment_image.specs.Image.{block, meters, decode_image, head_bytes_value, filled, encode_image}
use Rattle.segment_image.proofs.Blocks.{paste_before, block_same}
use Rattle.segment_image.proofs.Filled.{length-filled}
use Rattle.segment_places.specs.ProgramBecomes.{meter_in, Becomes}

-- ---- lists

module _ (s : List ℕ) (n : ℕ) where
  -- a copy into a list, seen from a place before it
  paste_after : (k p : ℕ) (l : List ℕ) → k + p ≤ length l → drop k (paste l (k + p) s n) ≡ paste (drop k l) p s n
  paste_after k p l h =
      let a = take (k + p) l in
      let w : length a ≡ k + p = length-take-le (k + p) l h in
      let e : k + (p + n) ≡ k + p + n = omega arith in
      drop-append-le k (a ++ take n s) (drop (k + p + n) l) (rw length-append (omega arith))
      ∙ ap (λ x. x ++ drop (k + p + n) l) (drop-append-le k a (take n s) (omega arith))
      ∙ ap (λ x. x ++ take n s ++ drop (k + p + n) l) (drop-take k p l)
      ∙ ap (λ x. take p (drop k l) ++ take n s ++ x) (ap (λ m. drop m l) (sym e) ∙ sym (drop-drop (p + n) k l))

  -- a copy into the second of two lists
  pub paste_behind : (f r : List ℕ) (k p : ℕ) → length f ≡ k → paste (f ++ r) (k + p) s n ≡ f ++ paste r p s n
  paste_behind f r k p e =
      let j : length f + p + n ≡ length f + (p + n) = omega arith in
      ap (λ x. paste (f ++ r) (x + p) s n) (sym e)
      ∙ ap (λ x. x ++ take n s ++ drop (length f + p + n) (f ++ r)) (take-append-add f r p)
      ∙ ap (λ x. f ++ take p r ++ take n s ++ x) (ap (λ m. drop m (f ++ r)) j ∙ drop-append-add f r (p + n))
      ∙ simp append_assoc

-- a copy of a whole list to the front
paste_front : (l b : List ℕ) → length b ≡ 25 → paste l 0 b 25 ≡ b ++ drop 25 l
paste_front l b w = ap (λ x. x ++ drop 25 l) (take_all 25 b (omega arith))

-- ---- meters, one behind the other

-- past the last place there are no bytes
pub meter_past : (l : List ℕ) (i n : ℕ) → length l ≡ 5974 → 64 ≤ i → decode_meter (whole_meter (take n (drop 5974 l))) ≡ meter_in i l
meter_past l i n e h =
    ap decode_meter (ap (λ x. whole_meter (take n x)) (drop_all 5974 l (omega arith)) ∙ ap whole_meter (take-nil n))
    ∙ sym (ap (λ x. decode_meter (take 25 x)) (drop_all (4374 + 25 * i) l (omega arith)))

next : (i : ℕ) → 25 * suc i ≡ 25 + 25 * i
next i = omega arith

meters_long : (n : ℕ) (l : List ℕ) → length (meters n l) ≡ n
unfolding meters
meters_long zero l = refl
meters_long (suc n) l = ap suc (meters_long n (drop 25 l))

-- the meter at a place i
meters-at : (n i : ℕ) (l : List ℕ) (d : PlainMeter) → i < n → get_or (meters n l) i d ≡ decode_meter (block (25 * i) 25 l)
unfolding meters
meters-at zero i l d h = absurd (omega arith)
meters-at (suc n) zero l d h = refl
meters-at (suc n) (suc i) l d h = meters-at n i (drop 25 l) d (omega arith) ∙ ap (λ x. decode_meter (take 25 x)) (drop-drop (25 * i) 25 l ∙ ap (λ k. drop k l) (sym (next i)))

module _ (b : List ℕ) (w : length b ≡ 25) where
  -- bytes put at a place i
  meters-put : (n i : ℕ) (l : List ℕ) → 25 * i + 25 ≤ length l → meters n (paste l (25 * i) b 25) ≡ set (meters n l) i (decode_meter b)
  unfolding meters
  meters-put zero i l h = refl
  meters-put (suc n) zero l h =
      ap (λ x. decode_meter (take 25 x) ∷ meters n (drop 25 x)) (paste_front l b w)
      ∙ ap₂ (λ x y. decode_meter x ∷ meters n y) (take_at b (drop 25 l) 25 w) (drop_at b (drop 25 l) 25 w)
  meters-put (suc n) (suc i) l h =
      let m : 25 * i + 25 ≤ length (drop 25 l) = rw length-drop (omega arith) in
      ap₂ (λ x y. decode_meter x ∷ meters n y) (paste_before l (25 * suc i) b 25 h 25 (omega arith))
      (ap (λ k. drop 25 (paste l k b 25)) (next i) ∙ paste_after b 25 25 (25 * i) l (omega arith))
      ∙ ap (λ r. decode_meter (take 25 l) ∷ r) (meters-put n i (drop 25 l) m)

-- the bytes of one of some meters replaced
rows_put : (m : PlainMeter) (ms : List PlainMeter) (i : ℕ) (z : List ℕ) → i < length ms
    → paste (each ms encode_meter ++ z) (25 * i) (encode_meter m) 25 ≡ each (set ms i m) encode_meter ++ z
rows_put m [] i z h = absurd (omega arith)
rows_put m (x ∷ xs) zero z h =
    let r = each xs encode_meter in
    paste_front (encode_meter x ++ r ++ z) (encode_meter m) (meter_long m)
    ∙ ap (λ y. encode_meter m ++ drop 25 y) (append_assoc (encode_meter x) r z)
    ∙ ap (λ y. encode_meter m ++ y) (drop_at (encode_meter x) (r ++ z) 25 (meter_long x))
    ∙ sym (append_assoc (encode_meter m) r z)
rows_put m (x ∷ xs) (suc i) z h =
    let r = each xs encode_meter in
    ap₂ (λ y k. paste y k (encode_meter m) 25) (append_assoc (encode_meter x) r z) (next i)
    ∙ paste_behind (encode_meter m) 25 (encode_meter x) (r ++ z) 25 (25 * i) (meter_long x)
    ∙ ap (λ y. encode_meter x ++ y) (rows_put m xs i z (omega arith))
    ∙ sym (append_assoc (encode_meter x) (each (set xs i m) encode_meter) z)

-- ---- images

-- what an image means, by its parts
pub decode_image-by : (s : Plain) (l : List ℕ) → number 4 0 l ≡ s.baud → of_bits binary64 (number 8 4 l) ≡ s.origin
    → block 18 (min (number 2 14 l) 260) l ≡ s.input
    → block 278 (min (number 2 16 l) 4096) l ≡ s.queue
    → meters (min (number 2 12 l) capacity) (drop 4374 l) ≡ s.meters
    → decode_image l ≡ s
unfolding decode_image
decode_image-by s l b o i q m = rw (b, o, i, q, m)

-- numbers in front that two lists have in common
number_same : (n p k : ℕ) (l m : List ℕ) → take k l ≡ take k m → p + n ≤ k → number n p l ≡ number n p m
number_same n p k l m e h = sym (number-take n p k l h) ∙ ap (number n p) e ∙ number-take n p k m h

-- what lies before the meters
abbrev in_front : Plain → ℕ → List ℕ
in_front s count = head_bytes_value s.baud s.origin count (length s.input) (length s.queue) ++ filled 260 s.input ++ filled 4096 s.queue

head_long : (b : ℕ) (o : Float) (c w q : ℕ) → length (head_bytes_value b o c w q) ≡ 18
unfolding head_bytes_value little
head_long b o c w q = refl

front_long : (s : Plain) (count : ℕ) → length s.input ≤ 260 → length s.queue ≤ 4096 → length (in_front s count) ≡ 4374
front_long s count i q =
    let h = head_bytes_value s.baud s.origin count (length s.input) (length s.queue) in
    length-append (h ++ filled 260 s.input) (filled 4096 s.queue)
    ∙ omega (arith, length-append h (filled 260 s.input), head_long s.baud s.origin count (length s.input) (length s.queue), length-filled 260 s.input i, length-filled 4096 s.queue q)

module _ (l : List ℕ) where
  pub input_short : length (decode_image l).input ≤ 260
  unfolding decode_image
  input_short = rw length-take (omega arith)

  pub queue_short : length (decode_image l).queue ≤ 4096
  unfolding decode_image
  queue_short = rw length-take (omega arith)

  pub input_count : length l ≡ 5974 → length (decode_image l).input ≡ min (number 2 14 l) 260
  unfolding decode_image
  input_count h = length-take (min (number 2 14 l) 260) (drop 18 l) ∙ omega (arith, length-drop 18 l)

  pub queue_count : length l ≡ 5974 → length (decode_image l).queue ≡ min (number 2 16 l) 4096
  unfolding decode_image
  queue_count h = length-take (min (number 2 16 l) 4096) (drop 278 l) ∙ omega (arith, length-drop 278 l)

  pub meters_count : length (decode_image l).meters ≡ min (number 2 12 l) capacity
  unfolding decode_image
  meters_count = meters_long (min (number 2 12 l) capacity) (drop 4374 l)

  -- the meter at a place i
  pub meter-at : (i : ℕ) (d : PlainMeter) → i < length (decode_image l).meters → get_or (decode_image l).meters i d ≡ meter_in i l
  unfolding decode_image
  meter-at i d h =
      meters-at (min (number 2 12 l) capacity) i (drop 4374 l) d (omega (arith, meters_count))
      ∙ ap (λ x. decode_meter (take 25 x)) (drop-drop (25 * i) 4374 l)

  pub meters_few : length (decode_image l).meters ≤ 64
  unfolding capacity
  meters_few = omega (arith, meters_count)

  module _ (long : length l ≡ 4374 + 25 * capacity) (i : ℕ) (m : PlainMeter) (h : i < length (decode_image l).meters) where
    abbrev new : List ℕ
    new = paste l (4374 + 25 * i) (encode_meter m) 25

    room : 4374 + 25 * i + 25 ≤ length l
    room = omega (arith, meters_count)

    front : take 4374 new ≡ take 4374 l
    front = paste_before l (4374 + 25 * i) (encode_meter m) 25 room 4374 (omega arith)

    new_long : length new ≡ length l
    new_long = length-paste l (4374 + 25 * i) (encode_meter m) 25 room (omega (arith, meter_long m))

    put_means : decode_meter (encode_meter m) ≡ m → decode_image new ≡ with_meters (set (decode_image l).meters i m) (decode_image l)
    unfolding decode_image
    put_means back =
        let same : (n p : ℕ) → p + n ≤ 4374 → number n p new ≡ number n p l = λ n p e. number_same n p 4374 new l front e in
        decode_image-by _ new (same 4 0 (omega arith)) (ap (of_bits binary64) (same 8 4 (omega arith)))
        (ap (λ n. block 18 (min n 260) new) (same 2 14 (omega arith)) ∙ block_same 18 (min (number 2 14 l) 260) 4374 new l front (omega arith) (omega (arith, new_long, room)) (omega (arith, room)))
        (ap (λ n. block 278 (min n 4096) new) (same 2 16 (omega arith)) ∙ block_same 278 (min (number 2 16 l) 4096) 4374 new l front (omega arith) (omega (arith, new_long, room)) (omega (arith, room)))
        (ap (λ n. meters (min n capacity) (drop 4374 new)) (same 2 12 (omega arith))
        ∙ ap (meters (min (number 2 12 l) capacity)) (paste_after (encode_meter m) 25 4374 (25 * i) l (omega (arith, room)))
        ∙ meters-put (encode_meter m) (meter_long m) (min (number 2 12 l) capacity) i (drop 4374 l) (rw length-drop (omega (arith, room)))
        ∙ ap (set (meters (min (number 2 12 l) capacity) (drop 4374 l)) i) back)

    put_exact : l ≡ encode_image (decode_image l) → new ≡ encode_image (with_meters (set (decode_image l).meters i m) (decode_image l))
    unfolding encode_image
    put_exact e =
        let s = decode_image l in
        let ms = s.meters in
        let z : ℕ → List ℕ = λ k. replicate (25 * capacity - k) 0 in
        let wide : (xs : List PlainMeter) → length (each xs encode_meter) ≡ 25 * length xs = length_rows encode_meter 25 meter_long in
        let same : length ms ≡ length (set ms i m) = sym (length-set ms i m) in
        ap (λ x. paste x (4374 + 25 * i) (encode_meter m) 25) e
        ∙ paste_behind (encode_meter m) 25 (in_front s (length ms)) _ 4374 (25 * i) (front_long s (length ms) input_short queue_short)
        ∙ ap (λ x. in_front s (length ms) ++ x) (rows_put m ms i (z (length (each ms encode_meter))) h)
        ∙ ap₂ (λ c k. in_front s c ++ (each (set ms i m) encode_meter ++ z k)) same (wide ms ∙ ap (λ k. 25 * k) same ∙ sym (wide (set ms i m)))

    pub meter_becomes : decode_meter (encode_meter m) ≡ m → Becomes l (with_meters (set (decode_image l).meters i m) (decode_image l)) new
    meter_becomes back = record { long = new_long; means = put_means back; exact = put_exact }
