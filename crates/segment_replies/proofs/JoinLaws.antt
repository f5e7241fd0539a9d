-- How replies join: E5s, and how long the outcome is.
use Rattle.std.specs.Prelude.{if◌then◌else◌}
use Rattle.std.proofs.Common.{◌≡◌, ℕ, zero, suc, ◌+◌, ◌≤◌, Bool, true, false, eqb, List, [], ◌∷◌, map, length, refl, ap, zero-le, arith, length-append}
use Rattle.laws.specs.Words.{keep, Every}
use Rattle.laws.proofs.Lists.{and_l, and_r}
use Rattle.meter_step.specs.Hear.{E5}
use Rattle.segment_replies.specs.Replies.{is_e5, all_e5, end_to_end, longest, overlaid, places, joined}

-- ---- E5s end to end

module _ {A : Type 0} where
  acks_all : (xs : List A) → all_e5 (map (λ x. E5) xs) ≡ true
  acks_all [] = refl
  acks_all (x ∷ xs) = acks_all xs

  acks_ends : (xs : List A) → end_to_end (map (λ x. E5) xs) ≡ map (λ x. 0xE5) xs
  acks_ends [] = refl
  acks_ends (x ∷ xs) = ap (λ r. 0xE5 ∷ r) (acks_ends xs)

  pub joined_acks : (xs : List A) → joined (map (λ x. E5) xs) ≡ map (λ x. 0xE5) xs
  unfolding joined
  joined_acks [] = refl
  joined_acks (x ∷ []) = refl
  joined_acks (x ∷ y ∷ xs) = rw (acks_all xs) (ap (λ r. 0xE5 ∷ 0xE5 ∷ r) (acks_ends xs))

  pub count_acks : (xs : List A) → length (keep (λ b. eqb b 0xE5) (map (λ x. 0xE5) xs)) ≡ length xs
  count_acks [] = refl
  count_acks (x ∷ xs) = ap suc (count_acks xs)

-- ---- no outcome is long

one_long : (r : List ℕ) → is_e5 r ≡ true → length r ≡ 1
one_long [] h = let z : ◌≡◌ {A = ℕ} 0 1 = cc in absurd (omega arith)
one_long (b ∷ []) h = refl
one_long (b ∷ c ∷ r) h = let z : ◌≡◌ {A = ℕ} 0 1 = cc in absurd (omega arith)

ends_short : (rs : List (List ℕ)) → all_e5 rs ≡ true → length (end_to_end rs) ≡ length rs
ends_short [] h = refl
ends_short (r ∷ rs) h =
    omega (arith, length-append r (end_to_end rs), one_long r (and_l (is_e5 r) (all_e5 rs) h), ends_short rs (and_r (is_e5 r) (all_e5 rs) h))

longest_short : (n : ℕ) (rs : List (List ℕ)) → Every (λ r. length r ≤ n) rs → longest rs ≤ n
longest_short n [] h = zero-le
longest_short n (r ∷ rs) h = omega (arith, h.0, longest_short n rs h.1)

pub length-places : (f : ℕ → ℕ) (i n : ℕ) → length (places f i n) ≡ n
length-places f i zero = refl
length-places f i (suc n) = ap suc (length-places f (suc i) n)

pub joined_short : (n : ℕ) (rs : List (List ℕ)) → Every (λ r. length r ≤ n) rs → length (joined rs) ≤ n + length rs
unfolding joined
joined_short n [] h = zero-le
joined_short n (r ∷ []) h = omega (arith, h.0)
joined_short n (r ∷ q ∷ rs) h = go (all_e5 (r ∷ q ∷ rs)) refl
  where
    go : (b : Bool) → all_e5 (r ∷ q ∷ rs) ≡ b
        → length (if b then end_to_end (r ∷ q ∷ rs) else places (overlaid (r ∷ q ∷ rs)) 0 (longest (r ∷ q ∷ rs))) ≤ n + suc (suc (length rs))
    go true e = omega (arith, ends_short (r ∷ q ∷ rs) e)
    go false e = omega (arith, length-places (overlaid (r ∷ q ∷ rs)) 0 (longest (r ∷ q ∷ rs)), longest_short n (r ∷ q ∷ rs) h)
