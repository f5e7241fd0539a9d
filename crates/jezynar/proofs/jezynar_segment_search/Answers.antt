-- `jezynar::jezynar_segment_search` meets its contract.
use mathlib.Core.Path.{◌≡◌, subst}
use mathlib.Core.List.{List}
use Prim.Native.Nat.{ℕ}
use Rattle.time_clock.specs.declared.Clock.{Clock}
use Rattle.segment_image.specs.Image.{decode_image}
use Rattle.c_search.specs.Searches.{search_by, Searches}
use Rattle.jezynar.proofs.jezynar_segment_search.Goals as goal

-- at an equal clock
searched_at : {j k : Clock} (a : ℕ) {n : ℕ} {image image₁ entries entries₁ summary summary₁ : List ℕ} → j ≡ k → Searches (search_by j a entries (decode_image image)) n image image₁ entries entries₁ summary summary₁
    → Searches (search_by k a entries (decode_image image)) n image image₁ entries entries₁ summary summary₁
searched_at a {n = n} {image = image} {image₁ = image₁} {entries = entries} {entries₁ = entries₁} {summary = summary} {summary₁ = summary₁} e d =
    subst (λ (x : Clock). Searches (search_by x a entries (decode_image image)) n image image₁ entries entries₁ summary summary₁) e d

pub returns : goal.returns
returns c =
    searched_at c.args.allowance c.clock_at-clock.ensures c.search_image.ensures
