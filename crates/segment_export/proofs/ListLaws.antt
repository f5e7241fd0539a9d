-- The whole list, from its records; and what an export comes to.
use mathlib.Core.Path.{◌≡◌, refl, sym, ap, ◌∙◌}
use mathlib.Core.Bool.{true, false}
use mathlib.Core.List.{List, [], ◌∷◌, ◌++◌}
use Prim.Native.Nat.{ℕ, ◌+◌, ◌/◌, ◌%◌, ◌≤◌, ◌<◌}
use native.Mathlib.Omega.{arith}
use lib.ListN.{length, take, drop}
use lib.Seq.{paste, take-length, take_all, drop-drop}
use borrow.Author.Tests.{lt-ltb, le-ltb}
use Rattle.list.specs.Written.{write_list_value}
use Rattle.segment.specs.Plain.{Plain}
use Rattle.segment_export.specs.Export.{list_of, any_above250, export_into_value}
use Rattle.segment_export.specs.ProgramExport.{records_of_value, RecordsWritten}
use Rattle.segment_export.specs.View.{exported_by}

-- a list's bytes by those of its records
abbrev pub whole : List ℕ → List ℕ
whole rs = 1 ∷ length rs / 256 ∷ length rs % 256 ∷ rs

list_whole : (s : Plain) → whole (records_of_value s) ≡ list_of s
unfolding records_of_value list_of write_list_value
list_whole s = refl

pub list_long : (s : Plain) → length (list_of s) ≡ 3 + length (records_of_value s)
list_long s = ap length (sym (list_whole s)) ∙ omega arith

-- three bytes, and the records behind them
pub list_written : (head records lent mid new : List ℕ) → 3 ≤ length lent → head ≡ 1 ∷ length records / 256 ∷ length records % 256 ∷ [] → mid ≡ take (length lent) head ++ drop (length head) lent → new ≡ paste mid 3 records (length records) → new ≡ whole records ++ drop (3 + length records) lent
list_written head records lent mid new fits h m e =
    let n = length records in
    let three : List ℕ = 1 ∷ n / 256 ∷ n % 256 ∷ [] in
    let both : List ℕ = 1 ∷ n / 256 ∷ n % 256 ∷ drop 3 lent in
    let long : length head ≡ 3 = ap length h in
    let kept : take (length lent) head ≡ head = take_all (length lent) head (omega (arith, long, fits)) in
    let front : mid ≡ both = m ∙ ap (λ (x : List ℕ). x ++ drop (length head) lent) kept ∙ ap (λ (x : List ℕ). x ++ drop (length x) lent) h in
    e
    ∙ ap (λ (x : List ℕ). paste x 3 records n) front
    ∙ ap (λ (x : List ℕ). three ++ take n records ++ x) (sym (drop-drop n 3 both) ∙ drop-drop n 3 lent)
    ∙ ap (λ (x : List ℕ). three ++ x ++ drop (3 + n) lent) (take-length records)

-- ---- what an export comes to

module _ (lent : List ℕ) (s : Plain) where
  pub export_high : true ≡ any_above250 s.meters → exported_by 18 0 lent ≡ export_into_value lent s
  unfolding export_into_value
  export_high h = rw (← h)

  module _ (h : false ≡ any_above250 s.meters) {bs : List ℕ} (w : RecordsWritten s bs) where
    count : length (list_of s) ≡ 3 + length bs
    count = list_long s ∙ ap (λ (x : List ℕ). 3 + length x) (sym w.is)

    pub export_short : length lent < length bs + 3 → exported_by 12 0 lent ≡ export_into_value lent s
    unfolding export_into_value
    export_short q = rw (← h, lt-ltb (length lent) (length (list_of s)) (omega (arith, count)))

    pub export_written : {new : List ℕ} → length bs + 3 ≤ length lent → new ≡ whole bs ++ drop (3 + length bs) lent → exported_by 0 (length bs + 3) new ≡ export_into_value lent s
    unfolding export_into_value
    export_written {new} q e =
        let c : length bs + 3 ≡ length (list_of s) = omega (arith, count) in
        let t : whole bs ≡ list_of s = ap whole w.is ∙ list_whole s in
        rw (← h, le-ltb (length lent) (length (list_of s)) (omega (arith, count)))
        (ap (λ (x : List ℕ). exported_by 0 (length bs + 3) x) (e ∙ ap (λ (x : List ℕ). x ++ drop (3 + length bs) lent) t ∙ ap (λ (k : ℕ). list_of s ++ drop k lent) (sym count))
        ∙ ap (λ (k : ℕ). exported_by 0 k (list_of s ++ drop (length (list_of s)) lent)) c)
