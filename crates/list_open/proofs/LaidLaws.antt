-- The layout of a list, and what its opening comes to by it.
use Rattle.std.specs.Prelude.{if◌then◌else◌, Result, Ok, Err}
use mathlib.Core.Path.{◌≡◌, refl, sym, subst}
use mathlib.Core.Bool.{Bool, true, false, ◌||◌, not}
use mathlib.Core.List.{List}
use Prim.Native.Nat.{ℕ, ◌+◌, ◌-◌, ◌*◌}
use lib.Dec.{eqb, ltb}
use lib.ListN.{length, drop}
use Rattle.laws.specs.Words.{at}
use Rattle.list.specs.Layout.{Listed, Layout, fits, no_fit, read_records}
use Rattle.list.specs.ProgramReading.{count_of, layout_value}
use Rattle.list.specs.declared.LayoutError.{LayoutError}
use Rattle.list.specs.declared.LayoutError.TheVariants.{Unversioned, Unfit}
use Rattle.list_open.specs.Opening.{refuses, open_records, open_list_value}

-- all the records of a list's bytes
abbrev pub read_from : List ℕ → Layout
read_from bs = read_records (length bs) (drop 3 bs)

-- what an opening of the list comes to, by its layout
abbrev ByLayout : List ℕ → ℕ → Bool → Result ℕ LayoutError → Type 0
ByLayout bs bus practice (Err Unversioned) = open_list_value bs bus practice ≡ refuses 1 0
ByLayout bs bus practice (Err Unfit) = open_list_value bs bus practice ≡ refuses 2 0
ByLayout bs bus practice (Ok n) = (rs : List Listed) × (read_from bs ≡ fits rs) × (n ≡ length rs) × (open_list_value bs bus practice ≡ open_records bus practice (fits rs))

pub by_layout : (bs : List ℕ) (bus : ℕ) (practice : Bool) {s : Result ℕ LayoutError} → s ≡ layout_value bs → ByLayout bs bus practice s
unfolding layout_value open_list_value open_records
by_layout bs bus practice {s} e = subst (ByLayout bs bus practice) (sym e) (first (ltb (length bs) 3 || not (eqb (at bs 0) 1)) refl (not (eqb (at bs 1 * 256 + at bs 2) (length bs - 3))) refl)
  where
    records : (l : Layout) → read_from bs ≡ l → open_list_value bs bus practice ≡ open_records bus practice l → ByLayout bs bus practice (count_of l)
    records no_fit f o = o
    records (fits rs) f o = (rs, f, refl, o)

    first : (a : Bool) → ltb (length bs) 3 || not (eqb (at bs 0) 1) ≡ a → (b : Bool) → not (eqb (at bs 1 * 256 + at bs 2) (length bs - 3)) ≡ b
        → ByLayout bs bus practice (if a then Err Unversioned else (if b then Err Unfit else count_of (read_records (length bs) (drop 3 bs))))
    first true p b q = rw p
    first false p true q = rw (p, q)
    first false p false q = records (read_from bs) refl (rw (p, q))

pub laid_out : (bs : List ℕ) {n : ℕ} → layout_value bs ≡ Ok n → (rs : List Listed) × (read_from bs ≡ fits rs) × (n ≡ length rs)
laid_out bs e = let s = by_layout bs 0 false (sym e) in (s.0, s.1, s.2)
