-- Every opening answers by 01's table, and names the first record that fails.
use mathlib.Core.Path.{◌≡◌, refl, sym, ap, subst, ◌∙◌}
use mathlib.Core.Bool.{Bool, true, false}
use mathlib.Core.List.{List}
use Prim.Native.Nat.{ℕ, ◌+◌, ◌-◌, ◌*◌, ◌≤◌, ◌<◌}
use lib.Dec.{eqb, ltb}
use lib.ListN.{length, drop}
use borrow.Author.Tests.{lt-ltb, le-ltb, ltb-true, ltb-false, eq-eqb, ne_eqb, eqb-true, eqb-false}
use Rattle.laws.specs.Words.{at}
use Rattle.meter.specs.Meter.{rates}
use Rattle.list_check.specs.Tables.{is_rate_value}
use Rattle.list.specs.Layout.{Listed, Layout, fits, no_fit, read_records}
use Rattle.list_check.specs.Check.{check, all_pass_value}
use Rattle.list_open.specs.Opening.{capacity, Opened, refuses, first_failing, open_records, open_list_value}
use Rattle.list_open.specs.Theorems.{LaidOut, ByTable, short, version, unfit, over, failing, baud, accepted, JudgedByTable, JudgedOnce}
use Rattle.list_open.proofs.FirstLaws.{first_number, first-is, some_fail, first_only, number_only}
use Rattle.list_open.proofs.OpeningLaws.{records_over, records_failing, records_baud, records_opened}

module _ (list : List ℕ) (bus : ℕ) (practice : Bool) where
  -- ---- the layout

  opens_short : length list < 3 → open_list_value list bus practice ≡ refuses 1 0
  unfolding open_list_value
  opens_short h = rw (lt-ltb (length list) 3 h)

  opens_version : (at list 0 ≡ 1 → ⊥) → open_list_value list bus practice ≡ refuses 1 0
  unfolding open_list_value
  opens_version h = go (ltb (length list) 3) refl
    where
      go : (b : Bool) → ltb (length list) 3 ≡ b → open_list_value list bus practice ≡ refuses 1 0
      go true e = rw e
      go false e = rw (e, ne_eqb (at list 0) 1 h)

  -- by the records, where the list begins as one does and its bytes are counted right
  opens_counted : 3 ≤ length list → at list 0 ≡ 1 → at list 1 * 256 + at list 2 ≡ length list - 3
      → open_list_value list bus practice ≡ open_records bus practice (read_records (length list) (drop 3 list))
  unfolding open_list_value
  opens_counted h v c = rw (le-ltb (length list) 3 h, eq-eqb (at list 0) 1 v, eq-eqb (at list 1 * 256 + at list 2) (length list - 3) c)

  opens_unfit : 3 ≤ length list → at list 0 ≡ 1 → ((rs : List Listed) → LaidOut list rs → ⊥) → open_list_value list bus practice ≡ refuses 2 0
  unfolding open_list_value open_records
  opens_unfit h v none = go (eqb (at list 1 * 256 + at list 2) (length list - 3)) refl
    where
      read : at list 1 * 256 + at list 2 ≡ length list - 3 → (l : Layout) → read_records (length list) (drop 3 list) ≡ l → open_records bus practice l ≡ refuses 2 0
      read c no_fit e = refl
      read c (fits rs) e = absurd (none rs record { begun = h; version = v; counted = c; read = e })

      go : (b : Bool) → eqb (at list 1 * 256 + at list 2) (length list - 3) ≡ b → open_list_value list bus practice ≡ refuses 2 0
      go false e = rw (le-ltb (length list) 3 h, eq-eqb (at list 0) 1 v, e)
      go true e =
          let c = eqb-true (at list 1 * 256 + at list 2) (length list - 3) e in
          opens_counted h v c ∙ read c (read_records (length list) (drop 3 list)) refl

  -- ---- the records

  opens_records : (rs : List Listed) → LaidOut list rs → open_list_value list bus practice ≡ open_records bus practice (fits rs)
  opens_records rs l = opens_counted l.begun l.version l.counted ∙ ap (open_records bus practice) l.read

-- ---- the table

abbrev Fits : Layout → Type 0
Fits no_fit = ⊥
Fits (fits rs) = Unit {0}

unread : {rs : List Listed} → no_fit ≡ fits rs → ⊥
unread e = subst Fits (sym e) tt

pub judged_once : JudgedOnce
judged_once list bus practice o (short h) = sym (opens_short list bus practice h)
judged_once list bus practice o (version h) = sym (opens_version list bus practice h)
judged_once list bus practice o (unfit h v none) = sym (opens_unfit list bus practice h v none)
judged_once list bus practice o (over rs l h) = sym (opens_records list bus practice rs l ∙ records_over bus practice rs h)
judged_once list bus practice o (failing rs l h before named after e p f) =
    let s : all_pass_value rs ≡ false = ap all_pass_value e ∙ some_fail named after f before p in
    let n : first_number rs ≡ check named = ap first_number e ∙ number_only named after f before p in
    let i : first_failing rs ≡ length before = ap first_failing e ∙ first_only named after f before p in
    (λ j. refuses (sym n j) (sym i j)) ∙ sym (opens_records list bus practice rs l ∙ records_failing bus practice rs h s)
judged_once list bus practice o (baud rs l h p r) = sym (opens_records list bus practice rs l ∙ records_baud bus practice rs h p r)
judged_once list bus practice o (accepted rs l h p r) = sym (opens_records list bus practice rs l ∙ records_opened bus practice rs h p r)

module _ (list : List ℕ) (bus : ℕ) (practice : Bool) where
  abbrev Judged : Type 0
  Judged = ByTable list bus practice (open_list_value list bus practice)

  -- o is what the list is opened to
  by : {o : Opened} → open_list_value list bus practice ≡ o → ByTable list bus practice o → Judged
  by e t = subst (ByTable list bus practice) (sym e) t

  judged_records : (rs : List Listed) → LaidOut list rs → Judged
  judged_records rs l = go (ltb capacity (length rs)) refl (all_pass_value rs) refl (is_rate_value rates bus) refl
    where
      e : open_list_value list bus practice ≡ open_records bus practice (fits rs)
      e = opens_records list bus practice rs l

      go : (a : Bool) → ltb capacity (length rs) ≡ a → (b : Bool) → all_pass_value rs ≡ b → (c : Bool) → is_rate_value rates bus ≡ c → Judged
      go true t b f c g = let h = ltb-true capacity (length rs) t in by (e ∙ records_over bus practice rs h) (over rs l h)
      go false t false f c g =
          let h = ltb-false capacity (length rs) t in
          let s = first-is rs f in
          by (e ∙ records_failing bus practice rs h f ∙ λ j. refuses (s.number_is j) (s.index_is j)) (failing rs l h s.before s.named s.after s.is s.passed s.fails)
      go false t true f false g = let h = ltb-false capacity (length rs) t in by (e ∙ records_baud bus practice rs h f g) (baud rs l h f g)
      go false t true f true g = let h = ltb-false capacity (length rs) t in by (e ∙ records_opened bus practice rs h f g) (accepted rs l h f g)

  judged_begun : 3 ≤ length list → at list 0 ≡ 1 → Judged
  judged_begun h v = go (eqb (at list 1 * 256 + at list 2) (length list - 3)) refl (read_records (length list) (drop 3 list)) refl
    where
      none : ((rs : List Listed) → LaidOut list rs → ⊥) → Judged
      none n = by (opens_unfit list bus practice h v n) (unfit h v n)

      go : (a : Bool) → eqb (at list 1 * 256 + at list 2) (length list - 3) ≡ a → (l : Layout) → read_records (length list) (drop 3 list) ≡ l → Judged
      go false e l f = none (λ rs o. eqb-false (at list 1 * 256 + at list 2) (length list - 3) e o.counted)
      go true e no_fit f = none (λ rs o. unread (sym f ∙ o.read))
      go true e (fits rs) f = judged_records rs record { begun = h; version = v; counted = eqb-true (at list 1 * 256 + at list 2) (length list - 3) e; read = f }

pub judged_by_table : JudgedByTable
judged_by_table list bus practice = go (ltb (length list) 3) refl (eqb (at list 0) 1) refl
  where
    go : (a : Bool) → ltb (length list) 3 ≡ a → (b : Bool) → eqb (at list 0) 1 ≡ b → Judged list bus practice
    go true e b f = let h = ltb-true (length list) 3 e in by list bus practice (opens_short list bus practice h) (short h)
    go false e false f = let h = eqb-false (at list 0) 1 f in by list bus practice (opens_version list bus practice h) (version h)
    go false e true f = judged_begun list bus practice (ltb-false (length list) 3 e) (eqb-true (at list 0) 1 f)
