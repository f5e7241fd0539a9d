-- Keys found in the program's tables: the rows found stand for those of the definition's tables.
use Rattle.std.specs.Prelude.{if◌then◌else◌, Option, Some, None, option_map, Result, Err, ok_or}
use Rattle.std.specs.List.{find}
use Rattle.std.specs.Str.{bytes_eq}
use mathlib.Core.Path.{◌≡◌, refl, ap}
use mathlib.Core.Bool.{Bool, true, false, cond, ◌&&◌, ◌||◌}
use mathlib.Core.List.{List, [], ◌∷◌, map}
use Prim.Native.Nat.{ℕ}
use lib.Dec.{eqb}
use Rattle.laws.specs.Words.{same_list}
use Rattle.meter.specs.declared.Fault.{Fault}
use Rattle.list_check.specs.Tables.{Medium, FaultKey, is_medium_value, is_fault, medium_of, fault_of}
use Rattle.list_check.specs.ProgramKeys.{row_of, fault_row_of, medium_row, fault_row}
use Rattle.list_check.specs.declared.tables.Keyed.{Keyed}
use Rattle.list_check.specs.declared.tables.Medium.{Medium as Valued}

-- `==` on slices
pub same_bytes : (a b : List ℕ) → bytes_eq a b ≡ same_list a b
same_bytes [] [] = refl
same_bytes [] (y ∷ ys) = refl
same_bytes (x ∷ xs) [] = refl
same_bytes (x ∷ xs) (y ∷ ys) = ap (λ (b : Bool). eqb x y && b) (same_bytes xs ys)

pub found_medium : (rows : List (Keyed Valued)) (t : List ℕ) → option_map row_of (find (λ (row : Keyed Valued). bytes_eq row.key.now t) rows) ≡ medium_row (map row_of rows) t
found_medium [] t = refl
found_medium (r ∷ rs) t = rw (same_bytes r.key.now t) (go (same_list r.key.now t) (found_medium rs t))
  where
    go : (b : Bool) → option_map row_of (find (λ (row : Keyed Valued). bytes_eq row.key.now t) rs) ≡ medium_row (map row_of rs) t
        → option_map row_of (cond b (Some r) (find (λ (row : Keyed Valued). bytes_eq row.key.now t) rs)) ≡ (if b then Some (row_of r) else medium_row (map row_of rs) t)
    go true h = refl
    go false h = h

pub found_fault : (rows : List (Keyed Fault)) (t : List ℕ) → option_map fault_row_of (find (λ (row : Keyed Fault). bytes_eq row.key.now t) rows) ≡ fault_row (map fault_row_of rows) t
found_fault [] t = refl
found_fault (r ∷ rs) t = rw (same_bytes r.key.now t) (go (same_list r.key.now t) (found_fault rs t))
  where
    go : (b : Bool) → option_map fault_row_of (find (λ (row : Keyed Fault). bytes_eq row.key.now t) rs) ≡ fault_row (map fault_row_of rs) t
        → option_map fault_row_of (cond b (Some r) (find (λ (row : Keyed Fault). bytes_eq row.key.now t) rs)) ≡ (if b then Some (fault_row_of r) else fault_row (map fault_row_of rs) t)
    go true h = refl
    go false h = h

-- a reference's row
pub row_under : {A B : Type 0} (f : A → B) {X : Type 0} (now : X → A) (o : Option X) → option_map (λ (x : X). f (now x)) o ≡ option_map f (option_map now o)
row_under f now None = refl
row_under f now (Some x) = refl

-- ---- a table with the key, and without it

pub medium_there : (rs : List Medium) (t : List ℕ) {r : Medium} → Some r ≡ medium_row rs t → (is_medium_value rs t ≡ true) × (r ≡ medium_of rs t)
medium_there [] t e = cc
medium_there (q ∷ rs) t {r} e = go (same_list q.key t) (medium_there rs t) e
  where
    go : (b : Bool) → (Some r ≡ medium_row rs t → (is_medium_value rs t ≡ true) × (r ≡ medium_of rs t)) → Some r ≡ (if b then Some q else medium_row rs t)
        → (b || is_medium_value rs t ≡ true) × (r ≡ cond b q (medium_of rs t))
    go true h f = (refl, cc)
    go false h f = h f

pub medium_absent : (rs : List Medium) (t : List ℕ) → ◌≡◌ {A = Option Medium} None (medium_row rs t) → is_medium_value rs t ≡ false
medium_absent [] t e = refl
medium_absent (q ∷ rs) t e = go (same_list q.key t) (medium_absent rs t) e
  where
    go : (b : Bool) → (◌≡◌ {A = Option Medium} None (medium_row rs t) → is_medium_value rs t ≡ false) → ◌≡◌ {A = Option Medium} None (if b then Some q else medium_row rs t)
        → b || is_medium_value rs t ≡ false
    go true h f = cc
    go false h f = h f

pub fault_there : (rs : List FaultKey) (t : List ℕ) {r : FaultKey} → Some r ≡ fault_row rs t → (is_fault rs t ≡ true) × (r.fault ≡ fault_of rs t)
fault_there [] t e = cc
fault_there (q ∷ rs) t {r} e = go (same_list q.key t) (fault_there rs t) e
  where
    go : (b : Bool) → (Some r ≡ fault_row rs t → (is_fault rs t ≡ true) × (r.fault ≡ fault_of rs t)) → Some r ≡ (if b then Some q else fault_row rs t)
        → (b || is_fault rs t ≡ true) × (r.fault ≡ cond b q.fault (fault_of rs t))
    go true h e = (refl, cc)
    go false h e = h e

pub fault_absent : (rs : List FaultKey) (t : List ℕ) → ◌≡◌ {A = Option FaultKey} None (fault_row rs t) → is_fault rs t ≡ false
fault_absent [] t e = refl
fault_absent (q ∷ rs) t e = go (same_list q.key t) (fault_absent rs t) e
  where
    go : (b : Bool) → (◌≡◌ {A = Option FaultKey} None (fault_row rs t) → is_fault rs t ≡ false) → ◌≡◌ {A = Option FaultKey} None (if b then Some q else fault_row rs t)
        → b || is_fault rs t ≡ false
    go true h f = cc
    go false h f = h f

-- ---- a row that is missing, named by an error

pub blamed : {T E : Type 0} {o : Option T} {d e : E} → o ≡ None → ◌≡◌ {A = Result T E} (Err e) (ok_or o d) → e ≡ d
blamed p v = let w = rw p at v in cc
