-- Texts one behind the other in lent bytes, and how long each text can be.
use mathlib.Core.Path.{◌≡◌, refl, sym, ap, ◌∙◌, subst}
use mathlib.Core.List.{List, [], ◌∷◌, ◌++◌, map, append_assoc, append-nil}
use Prim.Native.Nat.{ℕ, zero, suc, ◌+◌, ◌*◌, ◌/◌, ◌%◌, ◌^◌, ◌≤◌, ◌<◌}
use native.Mathlib.Nat.{zero-add, le_of_suc-le-suc, not-suc-le-zero}
use native.Mathlib.Numerals.{add-one}
use native.Mathlib.Omega.{arith}
use lib.ListN.{length, take, drop, get_or, length-append, length-map, get_or-map}
use lib.Seq.{paste-zero, length-take-le, take_at, drop_at, drop-drop}
use borrow.Author.Tests.{le-ltb, lt-ltb}
use Rattle.std.specs.Fmt.{decimal}
use Rattle.std.proofs.lemmas.List.{ext_get_or}
use Rattle.std.proofs.lemmas.Fmt.{PrependsLastDigit, decimal_from_prepends, decimal_digit, decimal_step, length-decimal-le}
use Rattle.search.specs.declared.EntryRecord.{EntryRecord}
use Rattle.search.specs.declared.Kind.{Kind}
use Rattle.search.specs.declared.Kind.TheVariants.{One, Mute, Many}
use Rattle.listing_text.specs.Text.{in_decimal, number_text, digit, eight_digits, word, line, lines, Wrote, Prints}

-- ---- one text behind another

pub wrote_then : {l s x t y : List ℕ} {at m r : ℕ} → Wrote l at s m x → Wrote x m t r y → m ≤ length l → Wrote l at (s ++ t) r y
wrote_then {l} {s} {x} {t} {y} {at} {m} {r} p q h =
    let n : ℕ = at + length s in
    let front : List ℕ = take at l ++ s in
    let e : length front ≡ m = length-append (take at l) s ∙ ap (λ (k : ℕ). k + length s) (length-take-le at l (omega (arith, p.end))) ∙ sym p.end in
    let a : take m x ≡ front = ap (take m) p.is ∙ take_at front (drop n l) m e in
    let b : drop m x ≡ drop n l = ap (drop m) p.is ∙ drop_at front (drop n l) m e in
    let g : n + length t ≡ at + length (s ++ t) = simp length-append (omega arith) in
    let z : drop (m + length t) x ≡ drop (at + length (s ++ t)) l =
    sym (drop-drop (length t) m x) ∙ ap (drop (length t)) b ∙ drop-drop (length t) n l ∙ ap (λ (k : ℕ). drop k l) g in
    record {
      is =
          q.is
          ∙ ap (λ (u : List ℕ). u ++ t ++ drop (m + length t) x) a
          ∙ ap (λ (u : List ℕ). front ++ t ++ u) z
          ∙ ap (λ (u : List ℕ). u ++ drop (at + length (s ++ t)) l) (append_assoc (take at l) s t);
      end = q.end ∙ ap (λ (k : ℕ). k + length t) p.end ∙ g;
      long = q.long ∙ p.long;
    }

-- a text from place 0 on
pub wrote_printed : {l s x : List ℕ} {at r : ℕ} → at ≡ 0 → Wrote l at s r x → Prints l s r x
wrote_printed {l} {s} {x} {at} {r} e p =
    let q : Wrote l 0 s r x = subst (λ (k : ℕ). Wrote l k s r x) e p in
    record { count = q.end ∙ zero-add (length s); is = q.is ∙ ap (λ (k : ℕ). s ++ drop k l) (zero-add (length s)) }

pub wrote_as : {l s t x : List ℕ} {at r : ℕ} → s ≡ t → Wrote l at s r x → Wrote l at t r x
wrote_as {l} {s} {t} {x} {at} {r} e p = subst (λ (u : List ℕ). Wrote l at u r x) e p

-- nothing written
pub wrote_none : {l : List ℕ} {at : ℕ} → Wrote l at [] at l
wrote_none {l} {at} = record { is = paste-zero l at []; end = omega arith; long = refl }

-- ---- a number

prepends : PrependsLastDigit in_decimal
unfolding in_decimal
prepends =
    record {
      one = λ (k n : ℕ) (after : List ℕ) (h : n < 10). rw (lt-ltb n 10 h) refl;
      more = λ (k n : ℕ) (after : List ℕ) (h : 10 ≤ n). rw (le-ltb n 10 h) refl;
    }

number_decimal : (n : ℕ) → n < 2 ^ 32 → number_text n ≡ decimal n
unfolding number_text
number_decimal n h =
    decimal_from_prepends in_decimal prepends 10 n [] (omega (arith, h)) (length-decimal-le 10 n (omega arith) (omega (arith, h)) (omega (arith, h)))
    ∙ append-nil (decimal n)

-- a number of one digit
pub number_one : {n : ℕ} → n < 10 → number_text n ≡ (0x30 + n % 10) ∷ []
number_one {n} h =
    let e : n ≡ n % 10 = omega (arith, h) in
    number_decimal n (omega (arith, h)) ∙ decimal_digit n h ∙ ap (λ (d : ℕ). (0x30 + d) ∷ []) e

-- the last digit stands behind the others
pub number_more : {n : ℕ} → 10 ≤ n → n < 2 ^ 32 → number_text n ≡ number_text (n / 10) ++ ((0x30 + n % 10) ∷ [])
number_more {n} k h =
    number_decimal n h
    ∙ decimal_step n k (omega (arith, h))
    ∙ ap (λ (t : List ℕ). t ++ ((0x30 + n % 10) ∷ [])) (sym (number_decimal (n / 10) (omega (arith, h))))

pub number_longer : {n : ℕ} → 10 ≤ n → n < 2 ^ 32 → length (number_text n) ≡ length (number_text (n / 10)) + 1
number_longer {n} k h = ap length (number_more k h) ∙ length-append (number_text (n / 10)) ((0x30 + n % 10) ∷ [])

pub number_short : {n : ℕ} → n < 2 ^ 32 → length (number_text n) ≤ 10
number_short {n} h = rw (number_decimal n h) (length-decimal-le 10 n (omega arith) (omega (arith, h)) (omega (arith, h)))

-- ---- the lines

pub word_short : (k : Kind) → length (word k) ≤ 5
word_short One = omega arith
word_short Mute = omega arith
word_short Many = omega arith

-- what a call of `digit` at each gives
pub each_digit : (ds ys : List ℕ) → length ys ≡ 8 → length ds ≡ 8 → ((i : ℕ) → i < 8 → get_or ys i (digit 0) ≡ digit (get_or ds i 0)) → ys ≡ eight_digits ds
each_digit ds ys e d f =
    ext_get_or (digit 0) ys (map digit ds) (e ∙ sym (length-map ds digit ∙ d)) (λ (i : ℕ) (h : i < length ys). f i (omega (arith, h, e)) ∙ sym (get_or-map digit ds i 0))

lines_more : (es : List EntryRecord) (i : ℕ) (d : EntryRecord) → i < length es → lines (take (suc i) es) ≡ lines (take i es) ++ line (get_or es i d)
lines_more [] i d h = absurd (not-suc-le-zero h)
lines_more (e ∷ es) zero d h = append-nil (line e)
lines_more (e ∷ es) (suc i) d h = ap (λ (r : List ℕ). line e ++ r) (lines_more es i d (le_of_suc-le-suc h)) ∙ sym (append_assoc (line e) (lines (take i es)) (line (get_or es i d)))

-- after i entries, from place at on: end is the place behind them
pub record Lined (lent : List ℕ) (at : ℕ) (es : List EntryRecord) (i end : ℕ) (out : List ℕ) : Type 0 where
  pub wrote : Wrote lent at (lines (take i es)) end out
  pub room : end ≤ at + 25 * i

pub lined_none : {lent : List ℕ} {at : ℕ} {es : List EntryRecord} → Lined lent at es 0 at lent
lined_none = record { wrote = wrote_none; room = omega arith }

pub lined_more : {lent out after : List ℕ} {at i end r : ℕ} {es : List EntryRecord} (d : EntryRecord)
    → Lined lent at es i end out → i < length es → end ≤ length lent → Wrote out end (line (get_or es i d)) r after → r ≤ end + 25 → Lined lent at es (i + 1) r after
lined_more {lent} {out} {after} {at} {i} {end} {r} {es} d p h k w b =
    record {
      wrote = rw (add-one, lines_more es i d h) (wrote_then p.wrote w k);
      room = omega (arith, p.room);
    }
