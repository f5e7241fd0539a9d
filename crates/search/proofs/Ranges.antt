-- The ids that have a prefix are those from its lowest to its highest number.
use mathlib.Core.Path.{◌≡◌, refl, sym, ap, ap₂, ◌∙◌}
use mathlib.Core.Bool.{Bool, true, false, ◌&&◌, and-false}
use mathlib.Core.List.{List, [], ◌∷◌, ◌++◌, append_assoc, append-nil}
use Prim.Native.Nat.{ℕ, zero, suc, ◌+◌, ◌-◌, ◌*◌, ◌≤◌, ◌<◌}
use native.Mathlib.Omega.{arith}
use lib.Dec.{eqb, leb}
use borrow.Author.Tests.{le-leb, lt-leb, eqb-true, eqb-false, leb-true, leb-false}
use lib.ListN.{length, replicate, length-append, length-replicate}
use Rattle.laws.specs.Words.{within}
use Rattle.meter_identity.specs.Identity.{digits_of_value}
use Rattle.search_walk.specs.Walk.{mask_digits}
use Rattle.search_walk.proofs.Model.{Prefix}
use Rattle.search_walk.proofs.MaskLaws.{digits_small}
use Rattle.search_walk.specs.Entries.{begins}
use Rattle.search_packed.specs.ProgramPacked.{span_of}
use Rattle.search.proofs.KeyDigits.{key_from, Nibbles, key_digits, digits_eight, digits_nibbles, digits_key, key_small}

abbrev pub zeros : ℕ → List ℕ
zeros u = replicate u 0

abbrev pub unknowns : ℕ → List ℕ
unknowns u = replicate u 0xF

-- a number that is behind stays behind
behind : (xs ys : List ℕ) (a b : ℕ) → a < b → length xs ≡ length ys → Nibbles xs → key_from a xs < key_from b ys
behind [] [] a b h l n = h
behind [] (y ∷ ys) a b h l n = absurd (omega arith)
behind (x ∷ xs) [] a b h l n = absurd (omega arith)
behind (x ∷ xs) (y ∷ ys) a b h l n = let p = n.0 in behind xs ys (a * 16 + x) (b * 16 + y) (omega arith) (omega arith) n.1

least : (ds : List ℕ) (a b : ℕ) → a ≤ b → key_from a (zeros (length ds)) ≤ key_from b ds
least [] a b h = h
least (d ∷ ds) a b h = least ds (a * 16 + 0) (b * 16 + d) (omega arith)

most : (ds : List ℕ) (a b : ℕ) → a ≤ b → Nibbles ds → key_from a ds ≤ key_from b (unknowns (length ds))
most [] a b h n = h
most (d ∷ ds) a b h n = let p = n.0 in most ds (a * 16 + d) (b * 16 + 15) (omega arith) n.1

nibbles_tail : (p : List ℕ) (u : ℕ) → Nibbles p → Nibbles (p ++ unknowns u)
nibbles_tail [] zero n = tt
nibbles_tail [] (suc u) n = (omega arith, nibbles_tail [] u tt)
nibbles_tail (d ∷ p) u n = (n.0, nibbles_tail p u n.1)

-- to have a prefix is to lie in its range
pub range_begins : (u : ℕ) (p ds : List ℕ) (a : ℕ) → Nibbles p → Nibbles ds → length ds ≡ length p + u
    → within (key_from a (p ++ zeros u)) (key_from a (p ++ unknowns u)) (key_from a ds) ≡ begins p ds
range_begins u [] ds a np nd l =
    let e : length ds ≡ u = omega arith in
    let lo : key_from a (zeros u) ≤ key_from a ds = rw (sym e) (least ds a a (omega arith)) in
    let hi : key_from a ds ≤ key_from a (unknowns u) = rw (sym e) (most ds a a (omega arith) nd) in
    ap₂ (λ x y. x && y) (le-leb _ _ lo) (le-leb _ _ hi)
range_begins u (d ∷ p) [] a np nd l = absurd (omega arith)
range_begins u (d ∷ p) (x ∷ ds) a np nd l = go (eqb d x) (leb d x) refl refl (range_begins u p ds (a * 16 + d) np.1 nd.1 (omega arith))
  where
    go : (s t : Bool) → eqb d x ≡ s → leb d x ≡ t
        → within (key_from (a * 16 + d) (p ++ zeros u)) (key_from (a * 16 + d) (p ++ unknowns u)) (key_from (a * 16 + d) ds) ≡ begins p ds
        → within (key_from (a * 16 + d) (p ++ zeros u)) (key_from (a * 16 + d) (p ++ unknowns u)) (key_from (a * 16 + x) ds) ≡ (s && begins p ds)
    go true t es et ih = rw (sym (eqb-true d x es)) ih
    go false true es et ih =
        let h : d < x = omega (arith, leb-true d x et, eqb-false d x es) in
        let g = behind (p ++ unknowns u) ds (a * 16 + d) (a * 16 + x) (omega arith) (omega (arith, length-append p (unknowns u), length-replicate {A = ℕ} u 0xF)) (nibbles_tail p u np.1) in
        ap (λ z. leb (key_from (a * 16 + d) (p ++ zeros u)) (key_from (a * 16 + x) ds) && z) (lt-leb _ _ g) ∙ and-false (leb (key_from (a * 16 + d) (p ++ zeros u)) (key_from (a * 16 + x) ds))
    go false false es et ih =
        let h : x < d = omega (arith, leb-false d x et) in
        let g = behind ds (p ++ zeros u) (a * 16 + x) (a * 16 + d) (omega arith) (omega (arith, length-append p (zeros u), length-replicate {A = ℕ} u 0)) nd.1 in
        ap (λ z. z && leb (key_from (a * 16 + x) ds) (key_from (a * 16 + d) (p ++ unknowns u))) (lt-leb _ _ g)

-- ---- the range's low end and its span, as the walk has them

scale_add : (u a b : ℕ) → key_from (a + b) (zeros u) ≡ key_from a (zeros u) + key_from b (zeros u)
scale_add zero a b = refl
scale_add (suc u) a b = ap (λ x. key_from x (zeros u)) (omega arith) ∙ scale_add u (a * 16 + 0) (b * 16 + 0)

scale_sixteen : (u b : ℕ) → key_from (b * 16) (zeros u) ≡ key_from b (zeros u) * 16
scale_sixteen zero b = refl
scale_sixteen (suc u) b = ap (λ x. key_from x (zeros u)) (omega arith) ∙ scale_sixteen u (b * 16 + 0)

scale_one : (u : ℕ) → key_from 1 (zeros u) ≡ span_of u + 1
unfolding span_of
scale_one zero = refl
scale_one (suc u) = scale_sixteen u 1 ∙ omega (arith, scale_one u)

span_top : (u : ℕ) → key_from 15 (zeros u) + span_of u ≡ span_of (suc u)
unfolding span_of
span_top u = omega (arith, scale_add u 15 1, scale_sixteen u 1, scale_one u)

pub high_end : (u a : ℕ) → key_from a (unknowns u) ≡ key_from a (zeros u) + span_of u
unfolding span_of
high_end zero a = omega arith
high_end (suc u) a =
    high_end u (a * 16 + 15)
    ∙ omega (arith, scale_add u (a * 16) 15, ap (λ x. key_from x (zeros u)) zero_more, span_top u)
  where
    zero_more : a * 16 + 0 ≡ a * 16
    zero_more = omega arith

-- a digit more: the row's steps
pub next_low : (u a d : ℕ) → key_from (a * 16 + d + 1) (zeros u) ≡ key_from (a * 16 + d) (zeros u) + (span_of u + 1)
next_low u a d = scale_add u (a * 16 + d) 1 ∙ ap (λ x. key_from (a * 16 + d) (zeros u) + x) (scale_one u)

-- ---- the range of a prefix with u digits unknown

abbrev pub low_of : List ℕ → ℕ → ℕ
low_of p u = key_from 0 (p ++ zeros u)

key_append : (p q : List ℕ) (a : ℕ) → key_from a (p ++ q) ≡ key_from (key_from a p) q
key_append [] q a = refl
key_append (d ∷ p) q a = key_append p q (a * 16 + d)

-- its highest id is the mask, F for unknown
pub high_of : (p : List ℕ) (u : ℕ) → key_from 0 (p ++ unknowns u) ≡ low_of p u + span_of u
high_of p u = key_append p (unknowns u) 0 ∙ high_end u (key_from 0 p) ∙ ap (λ x. x + span_of u) (sym (key_append p (zeros u) 0))

pub mask_unknowns : (p : List ℕ) (u : ℕ) → length p + u ≡ 8 → mask_digits p ≡ p ++ unknowns u
unfolding mask_digits
mask_unknowns p u l =
    let e : 8 - length p ≡ u = omega arith in
    rw e

-- the row's first mask, and the next
pub low_first : (p : List ℕ) (u : ℕ) → low_of (p ++ 0 ∷ []) u ≡ low_of p (suc u)
low_first p u = ap (key_from 0) (append_assoc p (0 ∷ []) (zeros u))

low_digit : (p : List ℕ) (d u : ℕ) → low_of (p ++ d ∷ []) u ≡ key_from (key_from 0 p * 16 + d) (zeros u)
low_digit p d u = ap (key_from 0) (append_assoc p (d ∷ []) (zeros u)) ∙ key_append p (d ∷ zeros u) 0

pub low_next : (p : List ℕ) (d u : ℕ) → low_of (p ++ (d + 1) ∷ []) u ≡ low_of (p ++ d ∷ []) u + (span_of u + 1)
low_next p d u =
    low_digit p (d + 1) u ∙ ap (λ x. key_from x (zeros u)) (omega arith) ∙ next_low u (key_from 0 p) d ∙ ap (λ x. x + (span_of u + 1)) (sym (low_digit p d u))

-- ---- ids and prefixes

-- an id is in a mask exactly if it begins with the prefix
pub inside_begins : (p : List ℕ) (u key : ℕ) → Prefix p → length p + u ≡ 8 → key < 0x100000000
    → within (low_of p u) (low_of p u + span_of u) key ≡ begins p (digits_of_value key)
inside_begins p u key w l h =
    ap₂ (λ x y. within (low_of p u) x y) (sym (high_of p u)) (sym (key_digits key h))
    ∙ range_begins u p (digits_of_value key) 0 (digits_small p w.digits) (digits_nibbles key) (digits_eight key ∙ sym l)

-- a mute's mask as a number
pub mask_digits_lem : (p : List ℕ) (u : ℕ) → Prefix p → length p + u ≡ 8 → (digits_of_value (low_of p u + span_of u) ≡ mask_digits p) × (low_of p u + span_of u < 0x100000000)
mask_digits_lem p u w l =
    let n : Nibbles (p ++ unknowns u) = nibbles_tail p u (digits_small p w.digits) in
    let e : length (p ++ unknowns u) ≡ 8 = length-append p (unknowns u) ∙ ap (λ x. length p + x) (length-replicate {A = ℕ} u 0xF) ∙ l in (
      ap digits_of_value (sym (high_of p u)) ∙ digits_key (p ++ unknowns u) e n ∙ sym (mask_unknowns p u l),
      omega (arith, high_of p u, key_small (p ++ unknowns u) e n),
    )

-- eight digits as a number
pub whole_digits : (p : List ℕ) → Prefix p → length p ≡ 8 → (digits_of_value (low_of p 0) ≡ p) × (low_of p 0 < 0x100000000)
whole_digits p w l =
    let e : p ++ [] ≡ p = append-nil p in
    let n = digits_small p w.digits in
    (ap (λ q. digits_of_value (key_from 0 q)) e ∙ digits_key p l n, omega (arith, ap (key_from 0) e, key_small p l n))
