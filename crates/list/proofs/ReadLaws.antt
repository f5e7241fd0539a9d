-- Reading slice by slice and reading the list of bytes agree: what a slice begins with is the first of its bytes.
use Rattle.std.specs.Prelude.{if◌then◌else◌, Option, Some, None, Result, Ok, Err}
use mathlib.Core.Path.{◌≡◌, refl, sym, ap, ◌∙◌}
use mathlib.Core.Bool.{Bool, true, false, ◌&&◌, and-false}
use mathlib.Core.List.{List, [], ◌∷◌}
use Prim.Native.Nat.{ℕ, zero, suc, ◌+◌, ◌-◌, ◌*◌, ◌≤◌, ◌<◌}
use native.Mathlib.Omega.{arith}
use lib.Dec.{leb}
use lib.ListN.{length, take, drop, length-drop}
use lib.Seq.{length-take-le}
use borrow.Author.Tests.{leb-true, le-leb, lt-leb}
use Rattle.laws.specs.Words.{at}
use Rattle.list.specs.Layout.{Listed, Texts, texts, no_texts, first_text, read_texts, Layout, fits, no_fit, made, read_records}
use Rattle.list.specs.declared.Listed.{Listed as Lent}
use Rattle.list.specs.declared.LayoutError.{LayoutError}
use Rattle.list.specs.declared.LayoutError.TheVariants.{Unfit}
use Rattle.list.specs.ProgramReading.{listed_of, split_text_value, with_texts, record_value, before, record_split, split_record_value, Step, one, bad, end, step_of, step, answered, left, Reads}

-- ---- texts

-- a text and what is behind it, taken out again
split_same : {t u x y : List ℕ} → ◌≡◌ {A = Option (List ℕ × List ℕ)} (Some (t, x)) (Some (u, y)) → (t ≡ u) × (x ≡ y)
split_same e = (
  ap (λ (o : Option (List ℕ × List ℕ)). elim o [ None ↦ [] | Some p ↦ p.0 ]) e,
  ap (λ (o : Option (List ℕ × List ℕ)). elim o [ None ↦ [] | Some p ↦ p.1 ]) e,
)

texts_one : (n : ℕ) (bs t rest : List ℕ) → ◌≡◌ {A = Option (List ℕ × List ℕ)} (Some (t, rest)) (split_text_value bs) → read_texts (suc n) bs ≡ first_text t (read_texts n rest)
unfolding read_texts
texts_one n [] t rest e = cc
texts_one n (l ∷ bs) t rest e = go (leb l (length bs)) e
  where
    go : (b : Bool) → ◌≡◌ {A = Option (List ℕ × List ℕ)} (Some (t, rest)) (if b then Some (take l bs, drop l bs) else None)
        → (if b then first_text (take l bs) (read_texts n (drop l bs)) else no_texts) ≡ first_text t (read_texts n rest)
    go true q = let p = split_same q in rw (p.0, p.1)
    go false q = cc

texts_none : (n : ℕ) (bs : List ℕ) → ◌≡◌ {A = Option (List ℕ × List ℕ)} None (split_text_value bs) → read_texts (suc n) bs ≡ no_texts
unfolding read_texts
texts_none n [] e = refl
texts_none n (l ∷ bs) e = go (leb l (length bs)) e
  where
    go : (b : Bool) → ◌≡◌ {A = Option (List ℕ × List ℕ)} None (if b then Some (take l bs, drop l bs) else None)
        → (if b then first_text (take l bs) (read_texts n (drop l bs)) else no_texts) ≡ no_texts
    go true q = cc
    go false q = refl

texts_end : (bs : List ℕ) → length bs ≡ 0 → read_texts 0 bs ≡ texts []
unfolding read_texts
texts_end [] h = refl
texts_end (b ∷ bs) h = absurd (omega arith)

texts_past : (bs : List ℕ) → (length bs ≡ 0 → ⊥) → read_texts 0 bs ≡ no_texts
unfolding read_texts
texts_past [] h = absurd (h refl)
texts_past (b ∷ bs) h = refl

-- ---- a record

abbrev NoRecord : List ℕ → Type 0
NoRecord bs = ◌≡◌ {A = Option Listed} None (record_value bs)

pub record_short : (bs : List ℕ) → length bs < 6 → NoRecord bs
unfolding record_value
record_short bs h = rw (lt-leb 6 (length bs) h)

module _ (bs : List ℕ) (h : 6 ≤ length bs) {o : List ℕ} (p : o ≡ drop 6 bs) where
  pub no_id : ◌≡◌ {A = Option (List ℕ × List ℕ)} None (split_text_value o) → NoRecord bs
  unfolding record_value
  no_id e = rw (le-leb 6 (length bs) h, ← p, texts_none 3 o e)

  module _ {i x : List ℕ} (a : ◌≡◌ {A = Option (List ℕ × List ℕ)} (Some (i, x)) (split_text_value o)) where
    pub no_manufacturer : ◌≡◌ {A = Option (List ℕ × List ℕ)} None (split_text_value x) → NoRecord bs
    unfolding record_value
    no_manufacturer e = rw (le-leb 6 (length bs) h, ← p, texts_one 3 o i x a, texts_none 2 x e)

    module _ {m y : List ℕ} (b : ◌≡◌ {A = Option (List ℕ × List ℕ)} (Some (m, y)) (split_text_value x)) where
      pub no_medium : ◌≡◌ {A = Option (List ℕ × List ℕ)} None (split_text_value y) → NoRecord bs
      unfolding record_value
      no_medium e = rw (le-leb 6 (length bs) h, ← p, texts_one 3 o i x a, texts_one 2 x m y b, texts_none 1 y e)

      module _ {d z : List ℕ} (c : ◌≡◌ {A = Option (List ℕ × List ℕ)} (Some (d, z)) (split_text_value y)) where
        pub no_fault : ◌≡◌ {A = Option (List ℕ × List ℕ)} None (split_text_value z) → NoRecord bs
        unfolding record_value
        no_fault e = rw (le-leb 6 (length bs) h, ← p, texts_one 3 o i x a, texts_one 2 x m y b, texts_one 1 y d z c, texts_none 0 z e)

        module _ {f w : List ℕ} (g : ◌≡◌ {A = Option (List ℕ × List ℕ)} (Some (f, w)) (split_text_value z)) where
          pub not_filled : (length w ≡ 0 → ⊥) → NoRecord bs
          unfolding record_value
          not_filled e = rw (le-leb 6 (length bs) h, ← p, texts_one 3 o i x a, texts_one 2 x m y b, texts_one 1 y d z c, texts_one 0 z f w g, texts_past w e)

          pub filled : {n : ℕ} → length w ≡ 0 → n ≡ ((at bs 2 * 256 + at bs 3) * 256 + at bs 4) * 256 + at bs 5
              → ◌≡◌ {A = Option Listed} (Some (record { primary = at bs 0; version = at bs 1; baud = n; id = i; manufacturer = m; medium = d; fault = f })) (record_value bs)
          unfolding record_value
          filled e q = rw (le-leb 6 (length bs) h, ← p, texts_one 3 o i x a, texts_one 2 x m y b, texts_one 1 y d z c, texts_one 0 z f w g, texts_end w e, q)

-- ---- the record that stands first

pub split_none : (bs : List ℕ) → ◌≡◌ {A = Option (List ℕ × List ℕ)} None (split_text_value bs) → ◌≡◌ {A = Option (Listed × List ℕ)} None (split_record_value bs)
unfolding split_record_value
split_none bs e = rw (← e)

module _ (bs : List ℕ) {t rest : List ℕ} (e : ◌≡◌ {A = Option (List ℕ × List ℕ)} (Some (t, rest)) (split_text_value bs)) where
  pub split_bad : NoRecord t → ◌≡◌ {A = Option (Listed × List ℕ)} None (split_record_value bs)
  unfolding split_record_value
  split_bad q = ap (λ (x : Option Listed). before x rest) q ∙ ap record_split e

  pub split_one : {r : Listed} → Some r ≡ record_value t → ◌≡◌ {A = Option (Listed × List ℕ)} (Some (r, rest)) (split_record_value bs)
  unfolding split_record_value
  split_one q = ap (λ (x : Option Listed). before x rest) q ∙ ap record_split e

-- ---- a step of the reader

-- one record more
abbrev pub more : Listed → Layout → Layout
more r no_fit = no_fit
more r (fits rs) = fits (r ∷ rs)

-- what some bytes read as, by what stands first
abbrev pub after_step : ℕ → Step → Layout
after_step n end = fits []
after_step n bad = no_fit
after_step n (one r rest) = more r (read_records n rest)

made_after : (t : List ℕ) (x : Texts) (n : ℕ) (rest : List ℕ) → made t x (read_records n rest) ≡ after_step n (step_of (before (with_texts t x) rest))
made_after t no_texts n rest = refl
made_after t (texts ts) n rest = go (read_records n rest)
  where
    go : (y : Layout) → made t (texts ts) y ≡ elim (with_texts t (texts ts)) [ None ↦ no_fit | Some r ↦ more r y ]
    go no_fit = refl
    go (fits rs) = refl

pub step_reads : (n : ℕ) (bs : List ℕ) → read_records (suc n) bs ≡ after_step n (step bs)
unfolding read_records split_record_value record_value
step_reads n [] = refl
step_reads n (l ∷ bs) = go (leb l (length bs)) refl
  where
    long : (c : Bool)
        → (if c && true then made (take l bs) (read_texts 4 (drop 6 (take l bs))) (read_records n (drop l bs)) else no_fit)
        ≡ after_step n (step_of (before (if c then with_texts (take l bs) (read_texts 4 (drop 6 (take l bs))) else None) (drop l bs)))
    long true = made_after (take l bs) (read_texts 4 (drop 6 (take l bs))) n (drop l bs)
    long false = refl

    go : (b : Bool) → leb l (length bs) ≡ b
        → (if leb 6 l && b then made (take l bs) (read_texts 4 (drop 6 (take l bs))) (read_records n (drop l bs)) else no_fit)
        ≡ after_step n (step_of (record_split (if b then Some (take l bs, drop l bs) else None)))
    go true e = rw (length-take-le l bs (leb-true l (length bs) e)) (long (leb 6 l))
    go false e = rw and-false

-- a record moves on
pub step_shorter : (bs : List ℕ) {r : Listed} {rest : List ℕ} → one r rest ≡ step bs → length rest < length bs
unfolding split_record_value
step_shorter [] e = cc
step_shorter (l ∷ bs) {r} {rest} e = go (leb l (length bs)) e
  where
    behind : (x : Option Listed) → one r rest ≡ step_of (before x (drop l bs)) → length rest < suc (length bs)
    behind None f = cc
    behind (Some q) f = let g : rest ≡ drop l bs = cc in rw (g, length-drop) (omega arith)

    go : (b : Bool) → one r rest ≡ step_of (record_split (if b then Some (take l bs, drop l bs) else None)) → length rest < suc (length bs)
    go true f = behind (record_value (take l bs)) f
    go false f = cc

-- the number of bytes bounds the records
pub reads_enough : (n : ℕ) (bs : List ℕ) → length bs ≤ n → read_records (suc n) bs ≡ read_records n bs
unfolding read_records
reads_enough zero [] h = refl
reads_enough zero (l ∷ bs) h = absurd (omega arith)
reads_enough (suc n) [] h = refl
reads_enough (suc n) (l ∷ bs) h =
    ap (λ (x : Layout). if leb 6 l && leb l (length bs) then made (take l bs) (read_texts 4 (drop 6 (take l bs))) x else no_fit)
    (reads_enough n (drop l bs) (rw length-drop (omega arith)))

pub enough : (n : ℕ) (bs : List ℕ) → length bs ≤ n → read_records (length bs) bs ≡ read_records n bs
enough n bs h = go (n - length bs) n (omega arith)
  where
    go : (k m : ℕ) → m ≡ length bs + k → read_records (length bs) bs ≡ read_records m bs
    go zero m e = let f : length bs ≡ m = omega arith in ap (λ (x : ℕ). read_records x bs) f
    go (suc k) m e =
        let f : suc (length bs + k) ≡ m = omega arith in
        go k (length bs + k) refl ∙ sym (reads_enough (length bs + k) bs (omega arith)) ∙ ap (λ (x : ℕ). read_records x bs) f

-- ---- what the reader answers

pub reads_one : {bs rest : List ℕ} {r : Lent} → Reads bs (Ok (Some r)) rest → one (listed_of r) rest ≡ step bs
reads_one {bs} {rest} {r} a = go (step bs) a.is a.rest_is
  where
    go : (s : Step) → ◌≡◌ {A = Result (Option Listed) LayoutError} (Ok (Some (listed_of r))) (answered s) → rest ≡ left bs s → one (listed_of r) rest ≡ s
    go (one q x) e f = cc
    go bad e f = cc
    go end e f = cc

pub reads_end : {bs rest : List ℕ} → Reads bs (Ok None) rest → end ≡ step bs
reads_end {bs} {rest} a = go (step bs) a.is
  where
    go : (s : Step) → ◌≡◌ {A = Result (Option Listed) LayoutError} (Ok None) (answered s) → end ≡ s
    go (one q x) e = cc
    go bad e = cc
    go end e = refl

pub reads_bad : {bs rest : List ℕ} {e : LayoutError} → Reads bs (Err e) rest → (bad ≡ step bs) × (e ≡ Unfit)
reads_bad {bs} {rest} {e} a = go (step bs) a.is
  where
    go : (s : Step) → ◌≡◌ {A = Result (Option Listed) LayoutError} (Err e) (answered s) → (bad ≡ s) × (e ≡ Unfit)
    go (one q x) f = cc
    go bad f = (refl, cc)
    go end f = cc
