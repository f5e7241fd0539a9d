-- More bytes behind those that were parsed: an answer that is not incomplete stays.
use Rattle.std.specs.Prelude.{if◌then◌else◌}
use Rattle.std.proofs.Common.{◌≡◌, ℕ, ◌+◌, ◌-◌, ◌<◌, ◌≤◌, Bool, true, false, not, ◌&&◌, eqb, ltb, List, [], ◌∷◌, ◌++◌, length, take, drop, sym, refl, ap, ◌∙◌, arith, length-append, length-drop, ltb-false, ltb-true, le-ltb}
use lib.ListN.{get_or-append}
use lib.Seq.{take-append-le, drop-append-le}
use Rattle.laws.specs.Words.{at}
use Rattle.frame.specs.Theorems.{Incomplete}
use Rattle.frame.specs.Frame.{ack, header, bad_length, start, Parsed, complete, incomplete, invalid, parse_short_value, parse_body, parse_long_value, parse}
use Rattle.frame.proofs.Cases.{short_few, long_few}

-- a telegram of which more bytes are due
abbrev Waits : Parsed → Type 0
Waits p = (n : ℕ) × (p ≡ incomplete n)

module _ (bs more : List ℕ) where
  pub at_more : (i : ℕ) → i < length bs → at (bs ++ more) i ≡ at bs i
  at_more i h = get_or-append bs more 0 i h

  length_more : length bs ≤ length (bs ++ more)
  length_more = omega (arith, length-append bs more)

  part_more : (k n : ℕ) → k + n ≤ length bs → take n (drop k (bs ++ more)) ≡ take n (drop k bs)
  part_more k n h = ap (take n) (drop-append-le k bs more (omega arith)) ∙ take-append-le n (drop k bs) more (omega (arith, length-drop k bs))

  short_same : 5 ≤ length bs → parse_short_value (bs ++ more) ≡ parse_short_value bs
  unfolding parse_short_value
  short_same h =
      rw (le-ltb (length bs) 5 h, le-ltb (length (bs ++ more)) 5 (omega (arith, length_more)), at_more 1 (omega arith), at_more 2 (omega arith), at_more 3 (omega arith), at_more 4 (omega arith))

  short_more : (Waits (parse_short_value bs) → ⊥) → parse_short_value (bs ++ more) ≡ parse_short_value bs
  short_more f = go (ltb (length bs) 5) refl
    where
      go : (b : Bool) → ltb (length bs) 5 ≡ b → parse_short_value (bs ++ more) ≡ parse_short_value bs
      go true e = absurd (f (_, short_few bs (ltb-true (length bs) 5 e)))
      go false e = short_same (ltb-false (length bs) 5 e)

  body_more : (l : ℕ) → 3 ≤ l → l + 6 ≤ length bs → parse_body l (bs ++ more) ≡ parse_body l bs
  unfolding parse_body
  body_more l k h =
      rw (at_more (4 + l) (omega arith), at_more (5 + l) (omega arith), at_more 4 (omega arith), at_more 5 (omega arith), at_more 6 (omega arith), part_more 4 l (omega arith), part_more 7 (l - 3) (omega arith))

-- parse_long_value past its first test, by its other tests
abbrev tested : Bool → Bool → Bool → ℕ → Parsed → Parsed
tested a b d n p = if not a then invalid header else (if b then invalid bad_length else (if d then incomplete n else p))

long_tested : (bs : List ℕ) → 4 ≤ length bs
    → parse_long_value bs ≡ tested (eqb (at bs 2) (at bs 1) && eqb (at bs 3) 0x68) (ltb (at bs 1) 3) (ltb (length bs) (at bs 1 + 6)) (at bs 1 + 6 - length bs) (parse_body (at bs 1) bs)
unfolding parse_long_value
long_tested bs h = rw (le-ltb (length bs) 4 h)

module _ (bs more : List ℕ) where
  long_same : (l : ℕ) (a b : Bool) → ltb l 3 ≡ b → (d : Bool) → ltb (length bs) (l + 6) ≡ d → (Waits (tested a b d (l + 6 - length bs) (parse_body l bs)) → ⊥)
      → tested a b (ltb (length (bs ++ more)) (l + 6)) (l + 6 - length (bs ++ more)) (parse_body l (bs ++ more)) ≡ tested a b d (l + 6 - length bs) (parse_body l bs)
  long_same l false b p d q f = refl
  long_same l true true p d q f = refl
  long_same l true false p true q f = absurd (f (_, refl))
  long_same l true false p false q f =
      let h : l + 6 ≤ length bs = ltb-false (length bs) (l + 6) q in
      rw (le-ltb (length (bs ++ more)) (l + 6) (omega (arith, length_more bs more))) (body_more bs more l (ltb-false l 3 p) h)

  long_more : (Waits (parse_long_value bs) → ⊥) → parse_long_value (bs ++ more) ≡ parse_long_value bs
  long_more f = go (ltb (length bs) 4) refl
    where
      go : (b : Bool) → ltb (length bs) 4 ≡ b → parse_long_value (bs ++ more) ≡ parse_long_value bs
      go true e = absurd (f (_, long_few bs (ltb-true (length bs) 4 e)))
      go false e =
          let h : 4 ≤ length bs = ltb-false (length bs) 4 e in
          long_tested (bs ++ more) (omega (arith, length_more bs more))
          ∙ rw (at_more bs more 1 (omega arith), at_more bs more 2 (omega arith), at_more bs more 3 (omega arith))
          (long_same (at bs 1) (eqb (at bs 2) (at bs 1) && eqb (at bs 3) 0x68) (ltb (at bs 1) 3) refl (ltb (length bs) (at bs 1 + 6)) refl (λ w. f (w.0, long_tested bs h ∙ w.1)))
          ∙ sym (long_tested bs h)

pub parse_more : (bs more : List ℕ) → (Incomplete bs → ⊥) → parse (bs ++ more) ≡ parse bs
unfolding parse
parse_more [] more f = absurd (f (1, refl))
parse_more (b ∷ xs) more f = go (eqb b 0xE5) (eqb b 0x10) (eqb b 0x68) f
  where
    go : (x y z : Bool) → (Waits (if x then complete ack 1 else (if y then parse_short_value (b ∷ xs) else (if z then parse_long_value (b ∷ xs) else invalid start))) → ⊥)
        → (if x then complete ack 1 else (if y then parse_short_value (b ∷ xs ++ more) else (if z then parse_long_value (b ∷ xs ++ more) else invalid start)))
        ≡ (if x then complete ack 1 else (if y then parse_short_value (b ∷ xs) else (if z then parse_long_value (b ∷ xs) else invalid start)))
    go true y z h = refl
    go false true z h = short_more (b ∷ xs) more h
    go false false true h = long_more (b ∷ xs) more h
    go false false false h = refl
