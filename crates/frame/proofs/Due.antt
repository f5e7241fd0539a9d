-- How many bytes are due of an incomplete telegram: with fewer it stays incomplete, and with exactly so many it need
-- not.
use Rattle.std.specs.Prelude.{if◌then◌else◌}
use Rattle.std.proofs.Common.{◌≡◌, ℕ, zero, suc, ◌+◌, ◌-◌, ◌<◌, ◌≤◌, Bool, true, false, not, ◌&&◌, eqb, ltb, List, [], ◌∷◌, ◌++◌, length, replicate, sym, refl, ap, ◌∙◌, arith, length-append, ltb-false, ltb-true, eqb-true}
use borrow.Author.Tests.{eqb-false}
use lib.ListN.{length-replicate}
use Rattle.laws.specs.Words.{at, Bytes}
use Rattle.laws.proofs.Lists.{and_l, and_r}
use Rattle.frame.specs.Frame.{ack, short, checksum, stop, header, bad_length, start, complete, incomplete, invalid, sum, parse_short_value, parse_body, parse_long_value, parse}
use Rattle.frame.specs.Theorems.{Incomplete}
use Rattle.frame.proofs.RoundTrip.{parse_long_is, parse_long_waits}
use Rattle.frame.proofs.Cases.{front_short, front_long, short_few, long_few, long_start, long_lengths}
use Rattle.frame.proofs.More.{at_more}
use Rattle.frame.proofs.Waiting.{never, never', short_waits, body_waits}

-- the four kinds of incomplete telegrams, with what is due of each
pub data Kind (bs : List ℕ) (n : ℕ) : Type 0 where
  nothing : bs ≡ [] → n ≡ 1 → Kind bs n
  in_short : at bs 0 ≡ 0x10 → 0 < length bs → length bs < 5 → n ≡ 5 - length bs → Kind bs n
  in_header : at bs 0 ≡ 0x68 → 0 < length bs → length bs < 4 → n ≡ 4 - length bs → Kind bs n
  in_body : at bs 0 ≡ 0x68 → 4 ≤ length bs → at bs 2 ≡ at bs 1 → at bs 3 ≡ 0x68 → 3 ≤ at bs 1 → length bs < at bs 1 + 6 → n ≡ at bs 1 + 6 - length bs → Kind bs n

same : {m n : ℕ} → incomplete m ≡ incomplete n → m ≡ n
same e = cc

short_kind : (bs : List ℕ) (n : ℕ) → at bs 0 ≡ 0x10 → 0 < length bs → parse_short_value bs ≡ incomplete n → Kind bs n
unfolding parse_short_value
short_kind bs n f h e = go (ltb (length bs) 5) refl (eqb (at bs 3) (sum (at bs 1 ∷ at bs 2 ∷ []))) (eqb (at bs 4) 0x16) e
  where
    go : (a : Bool) → ltb (length bs) 5 ≡ a → (b c : Bool)
        → (if a then incomplete (5 - length bs) else (if not b then invalid checksum else (if not c then invalid stop else complete (short (at bs 1) (at bs 2)) 5))) ≡ incomplete n → Kind bs n
    go true p b c q = in_short f h (ltb-true (length bs) 5 p) (sym (same q))
    go false p false c q = never' checksum q
    go false p true false q = never' stop q
    go false p true true q = never (short (at bs 1) (at bs 2)) 5 q

long_kind : (bs : List ℕ) (n : ℕ) → at bs 0 ≡ 0x68 → 0 < length bs → parse_long_value bs ≡ incomplete n → Kind bs n
unfolding parse_long_value
long_kind bs n f h e =
    go (ltb (length bs) 4) refl (eqb (at bs 2) (at bs 1) && eqb (at bs 3) 0x68) refl (ltb (at bs 1) 3) refl (ltb (length bs) (at bs 1 + 6)) refl e
  where
    go : (a : Bool) → ltb (length bs) 4 ≡ a → (b : Bool) → eqb (at bs 2) (at bs 1) && eqb (at bs 3) 0x68 ≡ b → (c : Bool) → ltb (at bs 1) 3 ≡ c → (d : Bool) → ltb (length bs) (at bs 1 + 6) ≡ d
        → (if a then incomplete (4 - length bs) else (if not b then invalid header else (if c then invalid bad_length else (if d then incomplete (at bs 1 + 6 - length bs) else parse_body (at bs 1) bs)))) ≡ incomplete n → Kind bs n
    go true p b s c t d u q = in_header f h (ltb-true (length bs) 4 p) (sym (same q))
    go false p false s c t d u q = never' header q
    go false p true s true t d u q = never' bad_length q
    go false p true s false t true u q =
        in_body f (ltb-false (length bs) 4 p) (eqb-true (at bs 2) (at bs 1) (and_l (eqb (at bs 2) (at bs 1)) (eqb (at bs 3) 0x68) s)) (eqb-true (at bs 3) 0x68 (and_r (eqb (at bs 2) (at bs 1)) (eqb (at bs 3) 0x68) s)) (ltb-false (at bs 1) 3 t) (ltb-true (length bs) (at bs 1 + 6) u) (sym (same q))
    go false p true s false t false u q = body_waits (at bs 1) bs q

pub kind : (bs : List ℕ) (n : ℕ) → parse bs ≡ incomplete n → Kind bs n
unfolding parse
kind [] n e = nothing refl (sym (same e))
kind (b ∷ bs) n e = go (eqb b 0xE5) (eqb b 0x10) refl (eqb b 0x68) refl e
  where
    go : (x y : Bool) → eqb b 0x10 ≡ y → (z : Bool) → eqb b 0x68 ≡ z
        → (if x then complete ack 1 else (if y then parse_short_value (b ∷ bs) else (if z then parse_long_value (b ∷ bs) else invalid start))) ≡ incomplete n → Kind (b ∷ bs) n
    go true y p z q f = never ack 1 f
    go false true p z q f = short_kind (b ∷ bs) n (eqb-true b 0x10 p) (omega arith) f
    go false false p true q f = long_kind (b ∷ bs) n (eqb-true b 0x68 q) (omega arith) f
    go false false p false q f = never' start f

-- ---- with fewer

some_there : (bs : List ℕ) → 0 < length bs → length bs ≡ 0 → ⊥
some_there bs h e = omega arith

pub fewer : (bs : List ℕ) (n : ℕ) → Kind bs n → (more : List ℕ) → length more < n → Incomplete (bs ++ more)
unfolding parse
fewer bs n (nothing e f) [] h = (1, ap (λ xs. parse (xs ++ [])) e)
fewer bs n (nothing e f) (x ∷ more) h = absurd (omega arith)
fewer bs n (in_short a b c e) more h =
    let l = length-append bs more in
    (_, sym (front_short (bs ++ more) (some_there (bs ++ more) (omega arith)) (at_more bs more 0 b ∙ a)) ∙ short_few (bs ++ more) (omega arith))
fewer bs n (in_header a b c e) more h =
    let l = length-append bs more in
    (_, sym (front_long (bs ++ more) (some_there (bs ++ more) (omega arith)) (at_more bs more 0 b ∙ a)) ∙ long_few (bs ++ more) (omega arith))
fewer bs n (in_body a b c d f g e) more h =
    let l = length-append bs more in
    let one = at_more bs more 1 (omega arith) in (
      _,
      sym (front_long (bs ++ more) (some_there (bs ++ more) (omega arith)) (at_more bs more 0 (omega arith) ∙ a))
          ∙ parse_long_waits (bs ++ more) (omega arith) (at_more bs more 2 (omega arith) ∙ c ∙ sym one) (at_more bs more 3 (omega arith) ∙ d) (omega arith) (omega arith),
    )

-- ---- with exactly so many

zeros : (n : ℕ) → Bytes (replicate n 0)
zeros zero = tt
zeros (suc n) = (omega arith, zeros n)

abbrev pub Enough : List ℕ → ℕ → Type 0
Enough bs n = (more : List ℕ) × (length more ≡ n) × Bytes more × (Incomplete (bs ++ more) → ⊥)

pub enough : (bs : List ℕ) (n : ℕ) → Kind bs n → Enough bs n
unfolding parse
enough bs n (nothing e f) = (0xE5 ∷ [], sym f, (omega arith, tt), λ w. never ack 1 (sym (ap (λ xs. parse (xs ++ 0xE5 ∷ [])) e) ∙ w.1))
enough bs n (in_short a b c e) =
    let more : List ℕ = replicate n 0 in
    let l = length-append bs more in
    let r : length more ≡ n = length-replicate n 0 in (
      more,
      r,
      zeros n,
      λ w.
          let s = short_waits (bs ++ more) (front_short (bs ++ more) (some_there (bs ++ more) (omega arith)) (at_more bs more 0 b ∙ a) ∙ w.1) in
          omega arith,
    )
enough bs n (in_header a b c e) = headed bs a b c e
  where
    -- a header whose last byte is 0 and not 68
    wrong : (xs : List ℕ) → at xs 0 ≡ 0x68 → length xs ≡ 4 → at xs 3 ≡ 0 → Incomplete xs → ⊥
    wrong xs f l z w = go (eqb (at xs 2) (at xs 1)) refl
      where
        waits : parse_long_value xs ≡ incomplete w.0
        waits = front_long xs (λ e. omega arith) f ∙ w.1

        go : (x : Bool) → eqb (at xs 2) (at xs 1) ≡ x → ⊥
        go true h = never' header (sym (long_start xs (omega arith) (eqb-true (at xs 2) (at xs 1) h) (λ e. omega arith)) ∙ waits)
        go false h = never' header (sym (long_lengths xs (omega arith) (eqb-false (at xs 2) (at xs 1) h)) ∙ waits)

    headed : (bs : List ℕ) → at bs 0 ≡ 0x68 → 0 < length bs → length bs < 4 → n ≡ 4 - length bs → Enough bs n
    headed [] a b c e = absurd (omega arith)
    headed (x ∷ []) a b c e = (0 ∷ 0 ∷ 0 ∷ [], sym e, (omega arith, (omega arith, (omega arith, tt))), wrong (x ∷ 0 ∷ 0 ∷ 0 ∷ []) a refl refl)
    headed (x ∷ y ∷ []) a b c e = (0 ∷ 0 ∷ [], sym e, (omega arith, (omega arith, tt)), wrong (x ∷ y ∷ 0 ∷ 0 ∷ []) a refl refl)
    headed (x ∷ y ∷ z ∷ []) a b c e = (0 ∷ [], sym e, (omega arith, tt), wrong (x ∷ y ∷ z ∷ 0 ∷ []) a refl refl)
    headed (x ∷ y ∷ z ∷ w ∷ bs) a b c e = absurd (omega arith)
enough bs n (in_body a b c d f g e) =
    let more : List ℕ = replicate n 0 in
    let l = length-append bs more in
    let r : length more ≡ n = length-replicate n 0 in
    let one = at_more bs more 1 (omega arith) in (
      more,
      r,
      zeros n,
      λ w.
          body_waits (at (bs ++ more) 1) (bs ++ more)
          (sym (parse_long_is (bs ++ more) (omega arith) (at_more bs more 2 (omega arith) ∙ c ∙ sym one) (at_more bs more 3 (omega arith) ∙ d) (omega arith) (omega arith))
          ∙ front_long (bs ++ more) (some_there (bs ++ more) (omega arith)) (at_more bs more 0 (omega arith) ∙ a) ∙ w.1),
    )
