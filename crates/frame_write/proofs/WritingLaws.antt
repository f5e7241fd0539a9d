-- Laws in the shape that the writer needs: write case by case, and a long telegram put together from its parts.
use Rattle.std.proofs.Common.{◌≡◌, ℕ, suc, ◌+◌, ◌%◌, ◌^◌, ◌<◌, ◌≤◌, List, [], ◌∷◌, ◌++◌, length, take, drop, refl, ap, ◌∙◌, ap₂, arith, drop-drop, le-ltb, lt-ltb}
use lib.Seq.{take-append_seam, drop-append-add}
use Rattle.frame.proofs.Cases.{sum_two}
use Rattle.frame.specs.Frame.{Telegram, short, long, sum, encode, data_of}
use Rattle.frame_write.specs.Writer.{write}

module _ (t : Telegram) (lent : List ℕ) where
  pub write_too_long : 252 < length (data_of t) → record { number = 11; count = 0; lent = lent } ≡ write t lent
  unfolding write
  write_too_long h = rw (lt-ltb 252 (length (data_of t)) h)

  pub write_no_room : (n : ℕ) → length (encode t) ≡ n → length (data_of t) ≤ 252 → length lent < n → record { number = 12; count = 0; lent = lent } ≡ write t lent
  unfolding write
  write_no_room n e h k = rw (le-ltb 252 (length (data_of t)) h, e, lt-ltb (length lent) n k)

  pub write-fits : (n : ℕ) (after : List ℕ) → length (encode t) ≡ n → length (data_of t) ≤ 252 → n ≤ length lent → after ≡ encode t ++ drop n lent
      → record { number = 0; count = n; lent = after } ≡ write t lent
  unfolding write
  write-fits n after e h k f = rw (le-ltb 252 (length (data_of t)) h, e, le-ltb (length lent) n k, f)

-- the sum, with C, A and CI in front of the data
pub sum_long : (c a ci : ℕ) (d : List ℕ) → (((c + a) % 2 ^ 8 + ci) % 2 ^ 8 + sum d) % 2 ^ 8 ≡ sum (c ∷ a ∷ ci ∷ d)
unfolding sum
sum_long c a ci d = omega arith

-- a short telegram's bytes
pub short_bytes : (c a : ℕ) → encode (short c a) ≡ 0x10 ∷ c ∷ a ∷ ((c + a) % 2 ^ 8) ∷ 0x16 ∷ []
unfolding encode
short_bytes c a = rw sum_two refl

-- the head, the data behind it, and the end behind these
seven : (n : ℕ) → 7 + n ≡ suc (suc (suc (suc (suc (suc (suc n))))))
seven n = omega arith

seven' : (n : ℕ) → n + 7 ≡ suc (suc (suc (suc (suc (suc (suc n))))))
seven' n = omega arith

nine : (n : ℕ) → n + 7 + 2 ≡ suc (suc (suc (suc (suc (suc (suc (n + 2)))))))
nine n = omega arith

module _ (c a ci : ℕ) (d lent : List ℕ) where
  abbrev headed : List ℕ → List ℕ
  headed r = 0x68 ∷ (length d + 3) ∷ (length d + 3) ∷ 0x68 ∷ c ∷ a ∷ ci ∷ r

  past : drop 2 (drop (length d) (drop 7 lent)) ≡ drop (length d + 9) lent
  past = let e : 7 + length d + 2 ≡ length d + 9 = omega arith in ap (drop 2) (drop-drop (length d) 7 lent) ∙ drop-drop 2 (7 + length d) lent ∙ ap (λ n. drop n lent) e

  pub long_put : (s : ℕ) (h₁ h₂ h₃ : List ℕ) → s ≡ sum (c ∷ a ∷ ci ∷ d) → h₁ ≡ headed (drop 7 lent) → h₂ ≡ take 7 h₁ ++ d ++ drop (7 + length d) h₁
      → h₃ ≡ take (length d + 7) h₂ ++ (s ∷ 0x16 ∷ []) ++ drop (length d + 7 + 2) h₂
      → h₃ ≡ encode (long c a ci d) ++ drop (length d + 9) lent
  unfolding encode
  long_put s h₁ h₂ h₃ k e f g =
      let rest = drop (length d) (drop 7 lent) in
      let q : h₂ ≡ headed (d ++ rest) = f ∙ ap (λ h. take 7 h ++ d ++ drop (7 + length d) h) e ∙ rw seven in
      let t : take (length d + 7) (headed (d ++ rest)) ≡ headed d = rw seven' (ap headed (take-append_seam d rest)) in
      let u : drop (length d + 7 + 2) (headed (d ++ rest)) ≡ drop (length d + 9) lent = rw nine (drop-append-add d rest 2 ∙ past) in
      g ∙ ap (λ h. take (length d + 7) h ++ (s ∷ 0x16 ∷ []) ++ drop (length d + 7 + 2) h) q
      ∙ ap₂ (λ x y. x ++ (s ∷ 0x16 ∷ []) ++ y) t u
      ∙ ap (λ (n : ℕ). headed (d ++ (n ∷ 0x16 ∷ []) ++ drop (length d + 9) lent)) k
