-- A written telegram is parsed to itself, and a parsed one is written back to the same bytes.
use Rattle.std.specs.Prelude.{if◌then◌else◌}
use Rattle.std.proofs.Common.{◌≡◌, ℕ, suc, ◌+◌, ◌-◌, ◌<◌, ◌≤◌, Bool, true, false, not, ◌&&◌, eqb, ltb, List, [], ◌∷◌, ◌++◌, length, take, drop, sym, refl, ap, ◌∙◌, append_assoc, add-one, arith, length-append, length-take-le, drop-cons, get_or-append-add, take-add, ltb-false, le-ltb, lt-ltb, eq-eqb, ne_eqb, eqb-true}
use lib.Seq.{take-append_seam, get_or-append_seam}
use Rattle.laws.proofs.Lists.{and_l, and_r}
use Rattle.laws.specs.Words.{at}
use Rattle.frame.specs.Frame.{Telegram, ack, short, long, Why, checksum, stop, header, bad_length, start, Parsed, complete, incomplete, invalid, sum, parse_short_value, parse_body, parse_long_value, parse, encode}

pub parse_long_is : (bs : List ℕ) → 4 ≤ length bs → at bs 2 ≡ at bs 1 → at bs 3 ≡ 0x68 → 3 ≤ at bs 1 → at bs 1 + 6 ≤ length bs → parse_long_value bs ≡ parse_body (at bs 1) bs
unfolding parse_long_value
parse_long_is bs a b c d e = rw (le-ltb (length bs) 4 a, eq-eqb (at bs 2) (at bs 1) b, eq-eqb (at bs 3) 0x68 c, le-ltb (at bs 1) 3 d, le-ltb (length bs) (at bs 1 + 6) e)

pub parse_long_waits : (bs : List ℕ) → 4 ≤ length bs → at bs 2 ≡ at bs 1 → at bs 3 ≡ 0x68 → 3 ≤ at bs 1 → length bs < at bs 1 + 6 → parse_long_value bs ≡ incomplete (at bs 1 + 6 - length bs)
unfolding parse_long_value
parse_long_waits bs a b c d e = rw (le-ltb (length bs) 4 a, eq-eqb (at bs 2) (at bs 1) b, eq-eqb (at bs 3) 0x68 c, le-ltb (at bs 1) 3 d, lt-ltb (length bs) (at bs 1 + 6) e)

pub parse_body-is : (l : ℕ) (bs : List ℕ) → at bs (4 + l) ≡ sum (take l (drop 4 bs)) → at bs (5 + l) ≡ 0x16
    → parse_body l bs ≡ complete (long (at bs 4) (at bs 5) (at bs 6) (take (l - 3) (drop 7 bs))) (l + 6)
unfolding parse_body
parse_body-is l bs a b = rw (eq-eqb (at bs (4 + l)) (sum (take l (drop 4 bs))) a, eq-eqb (at bs (5 + l)) 0x16 b)

pub parse_body_fails : (l : ℕ) (bs : List ℕ) → (at bs (4 + l) ≡ sum (take l (drop 4 bs)) → ⊥) → parse_body l bs ≡ invalid checksum
unfolding parse_body
parse_body_fails l bs a = rw (ne_eqb (at bs (4 + l)) (sum (take l (drop 4 bs))) a)

-- the bytes of a long telegram, with any sum, and whatever follows
abbrev pub long_with : ℕ → ℕ → ℕ → List ℕ → ℕ → List ℕ → List ℕ
long_with c a ci d s rest = 0x68 ∷ (length d + 3) ∷ (length d + 3) ∷ 0x68 ∷ c ∷ a ∷ ci ∷ (d ++ s ∷ 0x16 ∷ rest)

seven : (n : ℕ) → 4 + (n + 3) ≡ suc (suc (suc (suc (suc (suc (suc n))))))
seven n = omega arith

eight : (n : ℕ) → 5 + (n + 3) ≡ suc (suc (suc (suc (suc (suc (suc (n + 1)))))))
eight n = omega arith

three : (n : ℕ) → n + 3 ≡ suc (suc (suc n))
three n = omega arith

less : (n : ℕ) → n + 3 - 3 ≡ n
less n = omega arith

module _ (c a ci : ℕ) (d : List ℕ) (s : ℕ) (rest : List ℕ) where
  pub with_body : parse (long_with c a ci d s rest) ≡ parse_body (length d + 3) (long_with c a ci d s rest)
  unfolding parse
  with_body = parse_long_is (long_with c a ci d s rest) (omega arith) refl refl (omega arith) (omega (arith, length-append d (s ∷ 0x16 ∷ rest)))

  pub with-sum : at (long_with c a ci d s rest) (4 + (length d + 3)) ≡ s
  with-sum = rw seven (get_or-append_seam d s (0x16 ∷ rest) 0)

  pub with_taken : sum (take (length d + 3) (drop 4 (long_with c a ci d s rest))) ≡ sum (c ∷ a ∷ ci ∷ d)
  with_taken = rw (three, take-append_seam)

  with-stop : at (long_with c a ci d s rest) (5 + (length d + 3)) ≡ 0x16
  with-stop = rw eight (get_or-append-add d (s ∷ 0x16 ∷ rest) 1 0)

  pub with_complete : s ≡ sum (c ∷ a ∷ ci ∷ d) → parse (long_with c a ci d s rest) ≡ complete (long c a ci d) (length d + 3 + 6)
  with_complete e = with_body ∙ parse_body-is (length d + 3) (long_with c a ci d s rest) (with-sum ∙ e ∙ sym with_taken) with-stop ∙ rw (less, take-append_seam)

  pub with_wrong : (s ≡ sum (c ∷ a ∷ ci ∷ d) → ⊥) → parse (long_with c a ci d s rest) ≡ invalid checksum
  with_wrong f = with_body ∙ parse_body_fails (length d + 3) (long_with c a ci d s rest) (λ e. f (sym with-sum ∙ e ∙ with_taken))

-- ---- a written telegram is parsed to itself, whatever follows

pub length_long : (c a ci : ℕ) (d : List ℕ) → length (encode (long c a ci d)) ≡ length d + 9
unfolding encode
length_long c a ci d = omega (arith, length-append d (sum (c ∷ a ∷ ci ∷ d) ∷ 0x16 ∷ []))

pub parse-encode : (t : Telegram) (rest : List ℕ) → parse (encode t ++ rest) ≡ complete t (length (encode t))
unfolding parse encode parse_short_value
parse-encode ack rest = refl
parse-encode (short c a) rest = rw (le-ltb (length (encode (short c a) ++ rest)) 5 (omega arith), eq-eqb (sum (c ∷ a ∷ [])) (sum (c ∷ a ∷ [])) refl)
parse-encode (long c a ci d) rest =
    rw (append_assoc d (sum (c ∷ a ∷ ci ∷ d) ∷ 0x16 ∷ []) rest)
    (with_complete c a ci d (sum (c ∷ a ∷ ci ∷ d)) rest refl ∙ ap (complete (long c a ci d)) (omega (arith, length_long c a ci d)))

-- ---- a parsed telegram is written back to the same bytes

-- what a test let through
waits_past : (b : Bool) (m : ℕ) (x : Parsed) (t : Telegram) (n : ℕ) → (if b then incomplete m else x) ≡ complete t n → (b ≡ false) × (x ≡ complete t n)
waits_past true m x t n e = let z : ◌≡◌ {A = ℕ} 0 1 = cc in absurd (omega arith)
waits_past false m x t n e = (refl, e)

fails_past : (b : Bool) (w : Why) (x : Parsed) (t : Telegram) (n : ℕ) → (if not b then invalid w else x) ≡ complete t n → (b ≡ true) × (x ≡ complete t n)
fails_past true w x t n e = (refl, e)
fails_past false w x t n e = let z : ◌≡◌ {A = ℕ} 0 1 = cc in absurd (omega arith)

fails_past' : (b : Bool) (w : Why) (x : Parsed) (t : Telegram) (n : ℕ) → (if b then invalid w else x) ≡ complete t n → (b ≡ false) × (x ≡ complete t n)
fails_past' true w x t n e = let z : ◌≡◌ {A = ℕ} 0 1 = cc in absurd (omega arith)
fails_past' false w x t n e = (refl, e)

abbrev Back : List ℕ → Telegram → ℕ → Type 0
Back bs t n = (take n bs ≡ encode t) × (n ≤ length bs)

same_back : (bs : List ℕ) (t u : Telegram) (n m : ℕ) → complete t n ≡ complete u m → Back bs t n → Back bs u m
same_back bs t u n m e h = let a : t ≡ u = cc in let b : n ≡ m = cc in rw (← a, ← b) h

short_list : (b : ℕ) (xs : List ℕ) → b ≡ 0x10 → 5 ≤ length (b ∷ xs) → at (b ∷ xs) 3 ≡ sum (at (b ∷ xs) 1 ∷ at (b ∷ xs) 2 ∷ []) → at (b ∷ xs) 4 ≡ 0x16
    → take 5 (b ∷ xs) ≡ encode (short (at (b ∷ xs) 1) (at (b ∷ xs) 2))
unfolding encode
short_list b [] h l p q = absurd (omega arith)
short_list b (c ∷ []) h l p q = absurd (omega arith)
short_list b (c ∷ a ∷ []) h l p q = absurd (omega arith)
short_list b (c ∷ a ∷ s ∷ []) h l p q = absurd (omega arith)
short_list b (c ∷ a ∷ s ∷ e ∷ r) h l p q = rw (h, p, q)

short_back : (b : ℕ) (xs : List ℕ) (t : Telegram) (n : ℕ) → b ≡ 0x10 → parse_short_value (b ∷ xs) ≡ complete t n → Back (b ∷ xs) t n
unfolding parse_short_value
short_back b xs t n h e =
    let p = waits_past _ _ _ t n e in
    let q = fails_past _ _ _ t n p.1 in
    let r = fails_past _ _ _ t n q.1 in
    let l : 5 ≤ length (b ∷ xs) = ltb-false (length (b ∷ xs)) 5 p.0 in
    same_back (b ∷ xs) (short (at (b ∷ xs) 1) (at (b ∷ xs) 2)) t 5 n r.1 (short_list b xs h l (eqb-true _ _ q.0) (eqb-true _ _ r.0), l)

-- the last two bytes of a list from a place on
two_from : (ys : List ℕ) (n : ℕ) → n + 2 ≤ length ys → take (n + 2) ys ≡ take n ys ++ at ys n ∷ at ys (n + 1) ∷ []
two_from ys n h =
    take-add n 2 ys ∙ ap (λ z. take n ys ++ take 2 z) (drop-cons ys n 0 (omega arith)) ∙ ap (λ z. take n ys ++ at ys n ∷ take 1 z) (drop-cons ys (suc n) 0 (omega arith))
    ∙ rw (← add-one n)

long_list : (b : ℕ) (xs : List ℕ) (l : ℕ) → b ≡ 0x68 → at (b ∷ xs) 1 ≡ l → at (b ∷ xs) 2 ≡ l → at (b ∷ xs) 3 ≡ 0x68 → 3 ≤ l → l + 6 ≤ length (b ∷ xs)
    → at (b ∷ xs) (4 + l) ≡ sum (take l (drop 4 (b ∷ xs))) → at (b ∷ xs) (5 + l) ≡ 0x16
    → take (l + 6) (b ∷ xs) ≡ encode (long (at (b ∷ xs) 4) (at (b ∷ xs) 5) (at (b ∷ xs) 6) (take (l - 3) (drop 7 (b ∷ xs))))
unfolding encode
long_list b [] l h p q r m k s e = absurd (omega arith)
long_list b (x₁ ∷ []) l h p q r m k s e = absurd (omega arith)
long_list b (x₁ ∷ x₂ ∷ []) l h p q r m k s e = absurd (omega arith)
long_list b (x₁ ∷ x₂ ∷ x₃ ∷ []) l h p q r m k s e = absurd (omega arith)
long_list b (x₁ ∷ x₂ ∷ x₃ ∷ x₄ ∷ []) l h p q r m k s e = absurd (omega arith)
long_list b (x₁ ∷ x₂ ∷ x₃ ∷ x₄ ∷ x₅ ∷ []) l h p q r m k s e = absurd (omega arith)
long_list b (x₁ ∷ x₂ ∷ x₃ ∷ x₄ ∷ x₅ ∷ x₆ ∷ ys) l h p q r m k s e = go (l - 3) (omega arith)
  where
    go : (n : ℕ) → l ≡ n + 3
        → take (l + 6) (b ∷ x₁ ∷ x₂ ∷ x₃ ∷ x₄ ∷ x₅ ∷ x₆ ∷ ys)
        ≡ 0x68 ∷ (length (take n ys) + 3) ∷ (length (take n ys) + 3) ∷ 0x68 ∷ x₄ ∷ x₅ ∷ x₆ ∷ (take n ys ++ sum (x₄ ∷ x₅ ∷ x₆ ∷ take n ys) ∷ 0x16 ∷ [])
    go n f =
        let len : length (take n ys) ≡ n = length-take-le n ys (omega arith) in
        let sm : at ys n ≡ sum (x₄ ∷ x₅ ∷ x₆ ∷ take n ys) = rw (f, seven, three) at s in
        let st : at ys (n + 1) ≡ 0x16 = rw (f, eight) at e in
        rw (len, ← f, ← sm, ← st, h, p, q, r) (ap (λ z. take z (0x68 ∷ l ∷ l ∷ 0x68 ∷ x₄ ∷ x₅ ∷ x₆ ∷ ys)) (nine n f) ∙ ap (λ z. 0x68 ∷ l ∷ l ∷ 0x68 ∷ x₄ ∷ x₅ ∷ x₆ ∷ z) (two_from ys n (omega arith)))
      where
        nine : (n : ℕ) → l ≡ n + 3 → l + 6 ≡ suc (suc (suc (suc (suc (suc (suc (n + 2)))))))
        nine n f = omega arith

long_back : (b : ℕ) (xs : List ℕ) (t : Telegram) (n : ℕ) → b ≡ 0x68 → parse_long_value (b ∷ xs) ≡ complete t n → Back (b ∷ xs) t n
unfolding parse_long_value parse_body
long_back b xs t n h e =
    let p = waits_past (ltb (length (b ∷ xs)) 4) _ _ t n e in
    let twice = eqb (at (b ∷ xs) 2) (at (b ∷ xs) 1) in
    let again = eqb (at (b ∷ xs) 3) 0x68 in
    let q = fails_past (twice && again) header _ t n p.1 in
    let r = fails_past' (ltb (at (b ∷ xs) 1) 3) bad_length _ t n q.1 in
    let u = waits_past (ltb (length (b ∷ xs)) (at (b ∷ xs) 1 + 6)) _ _ t n r.1 in
    let v = fails_past (eqb (at (b ∷ xs) (4 + at (b ∷ xs) 1)) (sum (take (at (b ∷ xs) 1) (drop 4 (b ∷ xs))))) checksum _ t n u.1 in
    let w = fails_past (eqb (at (b ∷ xs) (5 + at (b ∷ xs) 1)) 0x16) stop _ t n v.1 in
    let l = at (b ∷ xs) 1 in
    let k : l + 6 ≤ length (b ∷ xs) = ltb-false _ _ u.0 in
    same_back (b ∷ xs) (long (at (b ∷ xs) 4) (at (b ∷ xs) 5) (at (b ∷ xs) 6) (take (l - 3) (drop 7 (b ∷ xs)))) t (l + 6) n w.1
    (long_list b xs l h refl (eqb-true _ _ (and_l twice again q.0)) (eqb-true _ _ (and_r twice again q.0)) (ltb-false _ _ r.0) k (eqb-true _ _ v.0) (eqb-true _ _ w.0), k)

pub parse_back : (bs : List ℕ) (t : Telegram) (n : ℕ) → parse bs ≡ complete t n → (take n bs ≡ encode t) × (n ≤ length bs)
unfolding parse encode
parse_back [] t n e = let z : ◌≡◌ {A = ℕ} 0 1 = cc in absurd (omega arith)
parse_back (b ∷ xs) t n e = go (eqb b 0xE5) refl (eqb b 0x10) refl (eqb b 0x68) refl e
  where
    go : (x : Bool) → eqb b 0xE5 ≡ x → (y : Bool) → eqb b 0x10 ≡ y → (z : Bool) → eqb b 0x68 ≡ z
        → (if x then complete ack 1 else if y then parse_short_value (b ∷ xs) else if z then parse_long_value (b ∷ xs) else invalid start) ≡ complete t n → Back (b ∷ xs) t n
    go true p y q z r f = same_back (b ∷ xs) ack t 1 n f (ap (λ z. z ∷ []) (eqb-true _ _ p), omega arith)
    go false p true q z r f = short_back b xs t n (eqb-true _ _ q) f
    go false p false q true r f = long_back b xs t n (eqb-true _ _ r) f
    go false p false q false r f = let z : ◌≡◌ {A = ℕ} 0 1 = cc in absurd (omega arith)
