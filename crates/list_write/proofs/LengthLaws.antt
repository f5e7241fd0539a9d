-- How long records are at the most.
use mathlib.Core.Path.{◌≡◌, ◌∙◌}
use mathlib.Core.List.{List, [], ◌∷◌, map}
use Prim.Native.Nat.{ℕ, ◌+◌, ◌*◌, ◌≤◌}
use native.Mathlib.Omega.{arith}
use lib.ListN.{length, length-append, length-map}
use Rattle.laws.specs.Words.{Every}
use Rattle.meter.specs.PlainMeter.{PlainMeter}
use Rattle.list.specs.Written.{write_texts, write_rest, write_records_value}
use Rattle.list_write.specs.Record.{digit_text, record_for}
use Rattle.list_write.proofs.KeyLaws.{medium_short, fault_short}
use Rattle.list_write.proofs.LetterLaws.{letters_few}

pub id_long : (ds : List ℕ) → length ds ≡ 8 → length (digit_text ds) ≡ 8
id_long ds e = length-map ds (λ d. 0x30 + d) ∙ e

-- 6 bytes, 4 lengths, and 8 + 3 + 11 + 13 characters
pub rest_short : (bus : ℕ) (m : PlainMeter) → length m.digits ≡ 8 → length (write_rest (record_for bus m)) ≤ 45
unfolding record_for write_rest write_texts
rest_short bus m e =
    let i = id_long m.digits e in
    let l = letters_few m.manufacturer m.medium m.model in
    let k = medium_short m.medium m.model in
    let f = fault_short m.fault in
    simp length-append (omega arith)

-- 46 bytes to a record: its rest, and the length of it
pub records_short : (bus : ℕ) (ms : List PlainMeter) → Every (λ m. length m.digits ≡ 8) ms → length (write_records_value (map (record_for bus) ms)) ≤ 46 * length ms
unfolding write_records_value
records_short bus [] h = omega arith
records_short bus (m ∷ ms) h = let here = rest_short bus m h.0 in let more = records_short bus ms h.1 in rw length-append (omega arith)
