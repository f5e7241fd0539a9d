-- Laws in the shape that code needs: the sum byte by byte, and parse case by case.
use Rattle.std.specs.Prelude.{if◌then◌else◌}
use Rattle.std.proofs.Common.{◌≡◌, ℕ, ◌+◌, ◌-◌, ◌%◌, ◌^◌, ◌<◌, ◌≤◌, eqb, List, [], ◌∷◌, ◌++◌, length, take, drop, sym, refl, ap, ◌∙◌, add-one, arith, take-suc, le-ltb, lt-ltb, eq-eqb, ne_eqb}
use Rattle.laws.specs.Words.{at}
use Rattle.frame.specs.Frame.{ack, long, checksum, stop, header, bad_length, start, complete, incomplete, invalid, added, sum, parse_short_value, parse_body, parse_long_value, parse}
use Rattle.frame.proofs.RoundTrip.{parse_long_is, parse_body-is, parse_body_fails}

added_snoc : (xs : List ℕ) (x : ℕ) → added (xs ++ x ∷ []) ≡ added xs + x
added_snoc [] x = omega arith
added_snoc (y ∷ xs) x = omega (arith, added_snoc xs x)

pub sum-none : sum [] ≡ 0
unfolding sum
sum-none = refl

pub sum_two : (c a : ℕ) → sum (c ∷ a ∷ []) ≡ (c + a) % 2 ^ 8
unfolding sum
sum_two c a = ap (λ x. x % 256) (omega arith)

pub sum_snoc : (xs : List ℕ) (x : ℕ) → sum (xs ++ x ∷ []) ≡ (sum xs + x) % 2 ^ 8
unfolding sum
sum_snoc xs x = rw (added_snoc xs x) (omega arith)

-- one byte more of those at the front
pub sum_more : (s : List ℕ) (i : ℕ) → i < length s → sum (take (i + 1) s) ≡ (sum (take i s) + at s i) % 2 ^ 8
sum_more s i h = ap (λ n. sum (take n s)) (add-one i) ∙ ap sum (take-suc s i 0 h) ∙ sum_snoc (take i s) (at s i)

-- parse, by the byte in front
pub parse-none : (bs : List ℕ) → length bs ≡ 0 → parse bs ≡ incomplete 1
unfolding parse
parse-none [] h = refl
parse-none (b ∷ bs) h = absurd (omega arith)

pub parse_front : (bs : List ℕ) → 0 < length bs
    → parse bs ≡ (if eqb (at bs 0) 0xE5 then complete ack 1 else (if eqb (at bs 0) 0x10 then parse_short_value bs else (if eqb (at bs 0) 0x68 then parse_long_value bs else invalid start)))
unfolding parse
parse_front [] h = absurd (omega arith)
parse_front (b ∷ bs) h = refl

positive : (bs : List ℕ) → (length bs ≡ 0 → ⊥) → 0 < length bs
positive [] h = absurd (h refl)
positive (b ∷ bs) h = omega arith

pub front_ack : (bs : List ℕ) → (length bs ≡ 0 → ⊥) → at bs 0 ≡ 0xE5 → complete ack 1 ≡ parse bs
front_ack bs n a = sym (parse_front bs (positive bs n) ∙ rw (eq-eqb (at bs 0) 0xE5 a))

pub front_short : (bs : List ℕ) → (length bs ≡ 0 → ⊥) → at bs 0 ≡ 0x10 → parse_short_value bs ≡ parse bs
front_short bs n a = sym (parse_front bs (positive bs n) ∙ rw (ne_eqb (at bs 0) 0xE5 (λ e. omega arith), eq-eqb (at bs 0) 0x10 a))

pub front_long : (bs : List ℕ) → (length bs ≡ 0 → ⊥) → at bs 0 ≡ 0x68 → parse_long_value bs ≡ parse bs
front_long bs n a = sym (parse_front bs (positive bs n) ∙ rw (ne_eqb (at bs 0) 0xE5 (λ e. omega arith), ne_eqb (at bs 0) 0x10 (λ e. omega arith), eq-eqb (at bs 0) 0x68 a))

pub front_other : (bs : List ℕ) → (length bs ≡ 0 → ⊥) → (at bs 0 ≡ 0xE5 → ⊥) → (at bs 0 ≡ 0x10 → ⊥) → (at bs 0 ≡ 0x68 → ⊥) → invalid start ≡ parse bs
front_other bs n a b c = sym (parse_front bs (positive bs n) ∙ rw (ne_eqb (at bs 0) 0xE5 a, ne_eqb (at bs 0) 0x10 b, ne_eqb (at bs 0) 0x68 c))

-- the short one with too few bytes
pub short_few : (bs : List ℕ) → length bs < 5 → parse_short_value bs ≡ incomplete (5 - length bs)
unfolding parse_short_value
short_few bs h = rw (lt-ltb (length bs) 5 h)

-- the long telegram, case by case, each by facts alone
pub long_few : (bs : List ℕ) → length bs < 4 → parse_long_value bs ≡ incomplete (4 - length bs)
unfolding parse_long_value
long_few bs a = rw (lt-ltb (length bs) 4 a)

pub long_lengths : (bs : List ℕ) → 4 ≤ length bs → (at bs 2 ≡ at bs 1 → ⊥) → parse_long_value bs ≡ invalid header
unfolding parse_long_value
long_lengths bs a b = rw (le-ltb (length bs) 4 a, ne_eqb (at bs 2) (at bs 1) b)

pub long_start : (bs : List ℕ) → 4 ≤ length bs → at bs 2 ≡ at bs 1 → (at bs 3 ≡ 0x68 → ⊥) → parse_long_value bs ≡ invalid header
unfolding parse_long_value
long_start bs a b c = rw (le-ltb (length bs) 4 a, eq-eqb (at bs 2) (at bs 1) b, ne_eqb (at bs 3) 0x68 c)

pub long_below : (bs : List ℕ) → 4 ≤ length bs → at bs 2 ≡ at bs 1 → at bs 3 ≡ 0x68 → at bs 1 < 3 → parse_long_value bs ≡ invalid bad_length
unfolding parse_long_value
long_below bs a b c d = rw (le-ltb (length bs) 4 a, eq-eqb (at bs 2) (at bs 1) b, eq-eqb (at bs 3) 0x68 c, lt-ltb (at bs 1) 3 d)

-- its head is right and all of its bytes are there: l of them are counted
pub record Whole (bs : List ℕ) (l : ℕ) : Type 0 where
  pub counted : at bs 1 ≡ l
  pub again : at bs 2 ≡ l
  pub start : at bs 3 ≡ 0x68
  pub enough : 3 ≤ l
  pub there : l + 6 ≤ length bs

-- by the tests of the code
pub whole_at : (bs : List ℕ) (l : ℕ) → l ≡ at bs 1 → (at bs 2 ≡ at bs 1) × (at bs 3 ≡ 0x68) → 3 ≤ l → l + 6 ≤ length bs → Whole bs l
whole_at bs l e head f g = record { counted = sym e; again = head.0 ∙ sym e; start = head.1; enough = f; there = g }

whole_body : (bs : List ℕ) (l : ℕ) → Whole bs l → parse_long_value bs ≡ parse_body l bs
whole_body bs l h = parse_long_is bs (omega arith) (h.again ∙ sym h.counted) h.start (omega arith) (omega arith) ∙ ap (λ n. parse_body n bs) h.counted

pub long_sum_lem : (bs : List ℕ) (l : ℕ) → Whole bs l → (at bs (4 + l) ≡ sum (take l (drop 4 bs)) → ⊥) → parse_long_value bs ≡ invalid checksum
long_sum_lem bs l h e = whole_body bs l h ∙ parse_body_fails l bs e

-- the sum that the code makes, of the bytes from the fifth on
pub summed : (bs : List ℕ) (l : ℕ) {total : ℕ} → total ≡ sum (take (4 + l - 4) (drop 4 bs)) → total ≡ sum (take l (drop 4 bs))
summed bs l e = let f : 4 + l - 4 ≡ l = omega arith in e ∙ ap (λ n. sum (take n (drop 4 bs))) f

pub long_stop : (bs : List ℕ) (l : ℕ) → Whole bs l → at bs (4 + l) ≡ sum (take l (drop 4 bs)) → (at bs (5 + l) ≡ 0x16 → ⊥) → parse_long_value bs ≡ invalid stop
unfolding parse_body
long_stop bs l h e f = whole_body bs l h ∙ rw (eq-eqb (at bs (4 + l)) (sum (take l (drop 4 bs))) e, ne_eqb (at bs (5 + l)) 0x16 f)

pub long_whole : (bs : List ℕ) (l : ℕ) → Whole bs l → at bs (4 + l) ≡ sum (take l (drop 4 bs)) → at bs (5 + l) ≡ 0x16
    → complete (long (at bs 4) (at bs 5) (at bs 6) (take (l - 3) (drop 7 bs))) (l + 6) ≡ parse_long_value bs
long_whole bs l h e f = sym (whole_body bs l h ∙ parse_body-is l bs e f)
