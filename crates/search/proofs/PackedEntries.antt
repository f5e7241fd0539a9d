-- Entries as numbers.
use mathlib.Core.Path.{◌≡◌, sym, ap, ap₂, ◌∙◌}
use mathlib.Core.List.{List}
use Prim.Native.Nat.{ℕ, zero, suc, ◌+◌, ◌*◌, ◌/◌, ◌%◌, ◌≤◌, ◌<◌}
use native.Mathlib.Omega.{arith}
use lib.ListN.{length}
use Rattle.meter_identity.specs.Identity.{digits_of_value}
use Rattle.search_walk.specs.Walk.{one, mute, many}
use Rattle.search_walk.proofs.Model.{Prefix}
use Rattle.search_packed.specs.ProgramPacked.{span_of}
use Rattle.search.specs.declared.EntryRecord.{EntryRecord}
use Rattle.search.specs.SearchCall.{record_of_value}
use Rattle.search.specs.ProgramPacking.{kind_in, count_in, record_in}
use Rattle.search.proofs.Ranges.{low_of, mask_digits_lem, whole_digits}

-- n in front of an id
abbrev fronted : ℕ → List ℕ → EntryRecord
fronted n ds = record { kind = kind_in n; digits = ds; count = count_in n }

record_is : (n id : ℕ) (ds : List ℕ) → id < 0x100000000 → digits_of_value id ≡ ds → record_in (n * 0x100000000 + id) ≡ fronted n ds
unfolding record_in
record_is n id ds h e =
    let a : (n * 0x100000000 + id) / 0x100000000 ≡ n = omega arith in
    let b : (n * 0x100000000 + id) % 0x100000000 ≡ id = omega arith in
    ap₂ (λ x y. fronted x (digits_of_value y)) a b ∙ ap (fronted n) e

pub record_one : (key : ℕ) (ds : List ℕ) → key < 0x100000000 → ds ≡ digits_of_value key → record_in (0x100000000 + key) ≡ record_of_value (one ds)
record_one key ds h e = ap record_in (omega arith) ∙ record_is 1 key ds h (sym e)

pub record_mute : (p : List ℕ) (u : ℕ) → Prefix p → length p + u ≡ 8 → record_in (low_of p u + span_of u) ≡ record_of_value (mute p)
record_mute p u w l = let m = mask_digits_lem p u w l in ap record_in (omega arith) ∙ record_is 0 (low_of p u + span_of u) _ m.1 m.0

pub record_many : (p : List ℕ) → Prefix p → length p ≡ 8 → (n : ℕ) → 2 ≤ n → record_in (n * 0x100000000 + low_of p 0) ≡ record_of_value (many p n)
record_many p w l zero h = absurd (omega arith)
record_many p w l (suc zero) h = absurd (omega arith)
record_many p w l (suc (suc n)) h = let m = whole_digits p w l in record_is (suc (suc n)) (low_of p 0) p m.1 m.0
