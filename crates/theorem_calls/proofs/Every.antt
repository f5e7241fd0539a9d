-- Any list of calls, from any memory that has the one image of a segment in block b.
use mathlib.Core.Path.{sym, subst}
use mathlib.Core.Logic.{∥∥₁_prop, ∥∥₁_elim, ∥∥₁_map}
use mathlib.Core.List.{List, [], ◌∷◌}
use Prim.Native.Nat.{ℕ}
use seplogic.Ra.Ura.{Ura}
use base.Logic.{SProp}
use prog.Memory.{Memory}
use prog.Model.{Model}
use types.Logic.{Logic}
use contract.Running.{Running}
use Rattle.laws.specs.Words.{Every}
use Rattle.segment.specs.Plain.{Plain}
use Rattle.segment_image.specs.Image.{decode_image, Exact}
use Rattle.search_walk.proofs.Seen.{WellFormed}
use Rattle.theorem_calls.specs.Call.{Call, after_calls}
use Rattle.theorem_calls.specs.Fit.{FitCall}
use Rattle.theorem_calls.specs.Made.{HasProgram, Made, over, next}
use Rattle.theorem_calls.specs.Demand3.{HoldsImage, AllRight}
use Rattle.theorem_calls.proofs.Machine.{Strict}
use Rattle.theorem_calls.proofs.Kept.{after_well}
use Rattle.theorem_calls.proofs.Routines.{Has}
use Rattle.theorem_calls.proofs.Step.{step, right, holds_one}

module _ {M : Type 1} {𝓤 : Ura M} (𝓛 : Logic 𝓤) (𝓜 : Model 𝓤 𝓛.H) (𝓡 : Running 𝓤 𝓛.H 𝓜) (strict : Strict 𝓤 𝓛 𝓜 𝓡) (program : HasProgram 𝓡.env) (b : ℕ) (G : SProp 𝓤) where
  -- the machine makes the list to its end
  pub runs : (cs : List Call) → Every FitCall cs → (bs : List ℕ) (σ : Memory) → Has 𝓛 𝓜 𝓡 b bs G σ → ∥ ((σ' : Memory) × Made 𝓡.env b cs σ σ') ∥₁
  runs [] f bs σ h = ∣ (σ, over) ∣₁
  runs (c ∷ cs) f bs σ h =
      ∥∥₁_elim (step 𝓛 𝓜 𝓡 strict program b c f.0 bs σ G h) ∥∥₁_prop (λ x.
      ∥∥₁_map (runs cs f.1 x.2.0 x.0.1 x.2.2) (λ u. (u.0, next x.0.0 x.0.1 x.1 u.1)))

  -- any list that was made is right, and leaves the image of the plain segment after its calls
  pub follow : {cs : List Call} {σ σ' : Memory} (m : Made 𝓡.env b cs σ σ') → Every FitCall cs → (bs : List ℕ) → Exact bs → WellFormed (decode_image bs) → Has 𝓛 𝓜 𝓡 b bs G σ → ∥ (AllRight (decode_image bs) m × HoldsImage σ' b (after_calls cs (decode_image bs))) ∥₁
  unfolding after_calls
  follow {σ = σ} over f bs x w h = ∥∥₁_map (holds_one 𝓛 𝓜 𝓡 strict program b bs σ G x h) (λ l. (tt, l))
  follow {σ = σ} {σ' = σ'} (next {c} {cs} r σ₁ run rest) f bs x w h =
      ∥∥₁_elim (right 𝓛 𝓜 𝓡 strict program b c f.0 bs x w σ G h r σ₁ run) ∥∥₁_prop (λ d.
      let e = d.1.2 in
      let Goal : Plain → Type 0 = λ s. AllRight s rest × HoldsImage σ' b (after_calls cs s) in
      ∥∥₁_map (follow rest f.1 d.1.0 d.1.1 (subst WellFormed (sym e) (after_well c (decode_image bs) w)) d.1.3) (λ u.
      let v = subst Goal e u in ((d.0, v.0), v.1)))
