-- More bytes in the queue of an image, and other input that waits in it.
use mathlib.Core.Path.{◌≡◌, refl, sym, ap, ap₂, ◌∙◌}
use Rattle.std.specs.Prelude.{Ok, Err}
use mathlib.Core.List.{List, [], ◌∷◌, ◌++◌, append_assoc}
use Prim.Native.Nat.{ℕ, ◌+◌, ◌-◌, ◌≤◌, ◌<◌, min}
use native.Mathlib.Nat.{zero-add}
use native.Mathlib.Omega.{arith}
use lib.ListN.{length, take, drop, replicate, length-append, length-replicate}
use lib.Seq.{paste, length-paste, take-paste, take_all, take_at}
use Rattle.std.proofs.lemmas.List.{take_min}
use Rattle.numbers.specs.Values.{little}
use Rattle.numbers.specs.Number.{number}
use Rattle.numbers.proofs.NumberLaws.{number-little}
use Rattle.segment.specs.Plain.{with_input, with_queue}
use Rattle.segment_image.specs.Image.{decode_image, filled, encode_image}
use Rattle.segment_image.proofs.Filled.{length-filled, drop_zeros, paste-whole}
use Rattle.segment_places.specs.declared.queue.QueueFull.{QueueFull}
use Rattle.segment_places.specs.ProgramBecomes.{Becomes, Queues}
use Rattle.segment_places.proofs.PlaceLaws.{paste_behind, input_short, queue_short, queue_count}
use Rattle.segment_places.proofs.PartLaws.{whole, Parts, head_of, meters_of_value, parts-mean, put_waiting, put_queued, put_input_lem, put_queue, parts_are, parts_long, queued_at, image_parts, image_parts_long, little_two}

abbrev pub zeros : ℕ → List ℕ
zeros n = replicate n 0

zeros_260 : length (zeros 260) ≡ 260
zeros_260 = length-replicate {A = ℕ} 260 0

-- the first so many, or all there are
pub take_least : (n k : ℕ) (xs : List ℕ) → k ≡ min (length xs) n → take k xs ≡ take n xs
take_least n k xs e = let f : k ≡ min n (length xs) = omega arith in ap (λ m. take m xs) f ∙ take_min n xs

pub none_left : (xs : List ℕ) → length xs ≡ 0 → xs ≡ []
none_left [] e = refl
none_left (x ∷ xs) e = absurd (omega arith)

-- with another queue, and with other input
pub other_queue : {h v x i qs y ys : List ℕ} → Parts h v x i qs → length y ≡ 2 → length ys ≡ 4096 → Parts h v y i ys
other_queue k e f = record { head_long = k.head_long; waiting_long = k.waiting_long; queued_long = e; input_long = k.input_long; queue_long = f }

other_input : {h v x i qs y ys : List ℕ} → Parts h v x i qs → length y ≡ 2 → length ys ≡ 260 → Parts h y x ys qs
other_input k e f = record { head_long = k.head_long; waiting_long = e; queued_long = k.queued_long; input_long = f; queue_long = k.queue_long }

-- more bytes behind those in use
fill_more : (k : ℕ) (a b : List ℕ) → length a + length b ≤ k → paste (filled k a) (length a) b (length b) ≡ filled k (a ++ b)
fill_more k a b h =
    let e : length a ≡ length a + 0 = omega arith in
    let z = zeros (k - length a) in
    let f : k - length a - length b ≡ k - length (a ++ b) = rw length-append (omega arith) in
    ap (λ x. paste (filled k a) x b (length b)) e
    ∙ paste_behind b (length b) a z (length a) 0 refl
    ∙ ap (λ x. a ++ (take (length b) b ++ drop x z)) (zero-add (length b))
    ∙ ap₂ (λ x y. a ++ (x ++ y)) (take_all (length b) b (omega arith)) (drop_zeros (length b) (k - length a) (omega arith) ∙ ap zeros f)
    ∙ sym (append_assoc a b (zeros (k - length (a ++ b))))

-- ---- the queue

module _ (l b : List ℕ) (q n : ℕ) (long : length l ≡ 5974) (is : q ≡ length (decode_image l).queue) (w : length b ≡ n) (fits : q + n ≤ 4096) where
  abbrev queued : List ℕ → List ℕ
  queued x = paste (paste x (278 + q) b n) 16 (little 2 (q + n)) 2

  queued_parts : (h v x i qs ms : List ℕ) → Parts h v x i qs → queued (whole h v x i qs ms) ≡ whole h v (little 2 (q + n)) i (paste qs q b n) ms
  queued_parts h v x i qs ms k =
      let k' : Parts h v x i (paste qs q b n) = other_queue k k.queued_long (length-paste qs q b n (omega (arith, k.queue_long)) (omega arith) ∙ k.queue_long) in
      ap (λ y. paste y 16 (little 2 (q + n)) 2) (put_queue ms k b n q fits)
      ∙ put_queued ms k' (little 2 (q + n)) (little_two (q + n))

  queued_long : length (queued l) ≡ length l
  queued_long =
      let a : length (paste l (278 + q) b n) ≡ length l = length-paste l (278 + q) b n (omega arith) (omega arith) in
      length-paste (paste l (278 + q) b n) 16 (little 2 (q + n)) 2 (omega arith) (omega (arith, little_two (q + n))) ∙ a

  queued_means : decode_image (queued l) ≡ with_queue ((decode_image l).queue ++ b) (decode_image l)
  queued_means =
      let k = parts_long l long in
      let qs = take 4096 (drop 278 l) in
      let new = paste qs q b n in
      let x = take 2 (drop 16 l) in
      let m = parts-mean (drop 4374 l) k in
      let k' : Parts (take 14 l) (take 2 (drop 14 l)) (little 2 (q + n)) (take 260 (drop 18 l)) new = other_queue k (little_two (q + n)) (length-paste qs q b n (omega (arith, k.queue_long)) (omega arith) ∙ k.queue_long) in
      let before : take q qs ≡ (decode_image l).queue = ap (λ j. take j qs) (is ∙ queue_count l long ∙ ap (λ j. min j 4096) (queued_at l long)) ∙ sym (ap (λ t. (decode_image t).queue) (parts_are l) ∙ ap (λ t. t.queue) m) in
      let back : min (number 2 0 (little 2 (q + n))) 4096 ≡ q + n = ap (λ j. min j 4096) (number-little 2 (q + n) (omega arith)) ∙ omega arith in
      let now : take (min (number 2 0 (little 2 (q + n))) 4096) new ≡ (decode_image l).queue ++ b =
      ap (λ j. take j new) back ∙ take-paste qs q b n (omega (arith, k.queue_long)) (omega arith) ∙ ap₂ (λ u v. u ++ v) before (take_all n b (omega arith)) in
      ap (λ t. decode_image (queued t)) (parts_are l)
      ∙ ap decode_image (queued_parts _ _ _ _ _ (drop 4374 l) k)
      ∙ parts-mean (drop 4374 l) k'
      ∙ ap₂ (λ u t. with_queue u t) now (sym m ∙ ap decode_image (sym (parts_are l)))

  queued_exact : l ≡ encode_image (decode_image l) → queued l ≡ encode_image (with_queue ((decode_image l).queue ++ b) (decode_image l))
  queued_exact e =
      let s = decode_image l in
      let c : q ≡ length s.queue = is in
      let k = image_parts_long s (input_short l) (queue_short l) in
      ap queued (e ∙ image_parts s)
      ∙ queued_parts _ _ _ _ _ _ k
      ∙ ap₂ (λ u v. whole (head_of s) (little 2 (length s.input)) u (filled 260 s.input) v (meters_of_value s)) (ap (little 2) (ap₂ (λ u v. u + v) c (sym w) ∙ sym (length-append s.queue b)))
      (ap₂ (λ u v. paste (filled 4096 s.queue) u b v) c (sym w) ∙ fill_more 4096 s.queue b (omega arith))
      ∙ sym (image_parts (with_queue (s.queue ++ b) s))

  pub queue_becomes : Becomes l (with_queue ((decode_image l).queue ++ b) (decode_image l)) (queued l)
  queue_becomes = record { long = queued_long; means = queued_means; exact = queued_exact }

-- or there is no room for them
pub queues_not : {more old : List ℕ} {why : QueueFull} → 4096 < length (decode_image old).queue + length more → Queues more old (Err why) old
queues_not h = record { done = tt; full = h; stays = refl }

pub queues : {more old new : List ℕ} → Becomes old (with_queue ((decode_image old).queue ++ more) (decode_image old)) new → Queues more old (Ok tt) new
queues b = record { done = b; full = tt; stays = tt }

-- ---- the input

module _ (l r : List ℕ) (n : ℕ) (long : length l ≡ 5974) (w : length r ≡ n) (fits : n ≤ 260) where
  abbrev waits : List ℕ → List ℕ
  waits x = paste (paste (paste x 18 (zeros 260) 260) 18 r n) 14 (little 2 n) 2

  blank : (i : List ℕ) → length i ≡ 260 → paste i 0 (zeros 260) 260 ≡ zeros 260
  blank i e = ap (λ k. paste i 0 (zeros 260) k) (sym e) ∙ paste-whole i (zeros 260) (zeros_260 ∙ sym e)

  -- over bytes 0
  fresh : paste (zeros 260) 0 r n ≡ filled 260 r
  fresh = ap (λ k. paste (zeros 260) 0 r k) (sym w) ∙ fill_more 260 [] r (omega arith)

  waits_parts : (h v x i qs ms : List ℕ) → Parts h v x i qs → waits (whole h v x i qs ms) ≡ whole h (little 2 n) x (filled 260 r) qs ms
  waits_parts h v x i qs ms k =
      let k₁ : Parts h v x (zeros 260) qs = record { head_long = k.head_long; waiting_long = k.waiting_long; queued_long = k.queued_long; input_long = zeros_260; queue_long = k.queue_long } in
      let k₂ : Parts h v x (filled 260 r) qs = other_input k k.waiting_long (length-filled 260 r (omega arith)) in
      ap (λ y. paste (paste y 18 r n) 14 (little 2 n) 2) (put_input_lem ms k (zeros 260) 260 0 (omega arith) ∙ ap (λ y. whole h v x y qs ms) (blank i k.input_long))
      ∙ ap (λ y. paste y 14 (little 2 n) 2) (put_input_lem ms k₁ r n 0 (omega arith) ∙ ap (λ y. whole h v x y qs ms) fresh)
      ∙ put_waiting ms k₂ (little 2 n) (little_two n)

  waits_long : length (waits l) ≡ length l
  waits_long =
      let a : length (paste l 18 (zeros 260) 260) ≡ length l = length-paste l 18 (zeros 260) 260 (omega arith) (omega (arith, zeros_260)) in
      let c : length (paste (paste l 18 (zeros 260) 260) 18 r n) ≡ length (paste l 18 (zeros 260) 260) = length-paste (paste l 18 (zeros 260) 260) 18 r n (omega arith) (omega arith) in
      length-paste (paste (paste l 18 (zeros 260) 260) 18 r n) 14 (little 2 n) 2 (omega arith) (omega (arith, little_two n)) ∙ c ∙ a

  waits_means : decode_image (waits l) ≡ with_input r (decode_image l)
  waits_means =
      let k = parts_long l long in
      let m = parts-mean (drop 4374 l) k in
      let k' : Parts (take 14 l) (little 2 n) (take 2 (drop 16 l)) (filled 260 r) (take 4096 (drop 278 l)) = other_input k (little_two n) (length-filled 260 r (omega arith)) in
      let back : min (number 2 0 (little 2 n)) 260 ≡ n = ap (λ j. min j 260) (number-little 2 n (omega arith)) ∙ omega arith in
      let now : take (min (number 2 0 (little 2 n)) 260) (filled 260 r) ≡ r = ap (λ j. take j (filled 260 r)) back ∙ take_at r _ n w in
      ap (λ t. decode_image (waits t)) (parts_are l)
      ∙ ap decode_image (waits_parts _ _ _ _ _ (drop 4374 l) k)
      ∙ parts-mean (drop 4374 l) k'
      ∙ ap₂ (λ u t. with_input u t) now (sym m ∙ ap decode_image (sym (parts_are l)))

  waits_exact : l ≡ encode_image (decode_image l) → waits l ≡ encode_image (with_input r (decode_image l))
  waits_exact e =
      let s = decode_image l in
      ap waits (e ∙ image_parts s)
      ∙ waits_parts _ _ _ _ _ _ (image_parts_long s (input_short l) (queue_short l))
      ∙ ap (λ u. whole (head_of s) (little 2 u) (little 2 (length s.queue)) (filled 260 r) (filled 4096 s.queue) (meters_of_value s)) (sym w)
      ∙ sym (image_parts (with_input r s))

  pub input_becomes : Becomes l (with_input r (decode_image l)) (waits l)
  input_becomes = record { long = waits_long; means = waits_means; exact = waits_exact }
