-- `jezynar::jezynar_segment_export` meets its contract.
use mathlib.Core.Path.{◌≡◌, ap₂, ◌∙◌}
use mathlib.Core.List.{List}
use Prim.Native.Nat.{ℕ, ◌+◌, ◌*◌, ◌/◌, ◌%◌, ◌<◌}
use native.Mathlib.Omega.{arith}
use Rattle.segment_export.specs.Export.{Exported}
use Rattle.segment_export.specs.View.{exported_by}
use Rattle.jezynar.proofs.jezynar_segment_export.Goals as goal

-- number and bytes in one
exported_as : {want : Exported} {lent : List ℕ} {n m r : ℕ} → r ≡ n * 65536 + m → m < 65536 → exported_by n m lent ≡ want → exported_by (r / 65536) (r % 65536) lent ≡ want
exported_as {lent = lent} {n} {m} {r} f h e =
    let p : r / 65536 ≡ n = omega arith in
    let q : r % 65536 ≡ m = omega arith in
    ap₂ (λ (x : ℕ) (y : ℕ). exported_by x y lent) p q ∙ e

pub returns : goal.returns
returns c = exported_as c.packed_count.ensures.0 c.packed_count.ensures.1 c.export-answer.ensures
