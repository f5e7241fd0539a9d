-- Demand 3, closed.
use mathlib.Core.Path.{sym, ap, subst, ◌∙◌}
use mathlib.Core.Logic.{∥∥₁_prop, ∥∥₁_elim, ∥∥₁_map}
use mathlib.Core.List.{List, [], ◌∷◌}
use Prim.Native.Nat.{ℕ}
use seplogic.Ra.Ura.{Ura}
use base.Fraction.{full_share}
use mir.Syntax.{w8}
use mir.Val.{Val, vptr}
use base.Logic.{SProp, sep}
use prog.AdequacyRun.{start_mem}
use prog.Memory.{Memory}
use prog.Wp.{run}
use prog.Model.{Model, AllFit}
use prog.Routine.{Env, ends-one}
use types.Logic.{Logic}
use contract.Running.{Running, within}
use contract.Closed.{model⁺, real⁺, real⁺_strict}
use contract.Adequate.{Satisfies, start_Satisfies}
use contract.BorrowModel.{logic₀}
use ghost.Model as Closed
use Rattle.laws.specs.Words.{Every}
use Rattle.list_open.specs.Opening.{capacity}
use Rattle.segment.specs.Plain.{Plain, blank}
use Rattle.segment_image.specs.Image.{encode_image}
use Rattle.search_walk.proofs.Seen.{WellFormed}
use Rattle.search.proofs.WellLaws.{blank_well}
use Rattle.jezynar.proofs.jezynar_segment_new.Symbol.{name as new-name}
use Rattle.theorem_calls.specs.Call.{Call, opening, after_calls}
use Rattle.theorem_calls.specs.Fit.{Byte, FitCall}
use Rattle.theorem_calls.specs.Made.{HasProgram}
use Rattle.theorem_calls.specs.Demand3.{block, start, Run, HoldsImage, AllRight, Demand3}
use Rattle.theorem_calls.proofs.Machine.{Strict}
use Rattle.theorem_calls.proofs.Arguments.{holds_image}
use Rattle.theorem_calls.proofs.Routines.{size, Has, new_ends}
use Rattle.theorem_calls.proofs.Every.{runs, follow}

all_fit : (bs : List ℕ) → Every Byte bs → AllFit w8 bs
all_fit [] f = tt
all_fit (b ∷ bs) f = (record { fits = f.0 }, all_fit bs f.1)

abbrev 𝓡₀ : Env → Running Closed.𝓤 Closed.H model⁺
𝓡₀ = within Closed.𝓤 Closed.H model⁺ real⁺

module _ {M : Type 1} {𝓤 : Ura M} (𝓛 : Logic 𝓤) (𝓜 : Model 𝓤 𝓛.H) (𝓡 : Running 𝓤 𝓛.H 𝓜) (strict : Strict 𝓤 𝓛 𝓜 𝓡) (program : HasProgram 𝓡.env) (input output image : List ℕ) (calls : List Call) (f : Every FitCall calls) (G : SProp 𝓤)
    (h : Has 𝓛 𝓜 𝓡 (block input output) image G (start input output image)) where
  ends_all : ∥ Run 𝓡.env input output image calls ∥₁
  ends_all =
      ∥∥₁_elim (new_ends 𝓛 𝓜 𝓡 strict program (block input output) image (start input output image) G h) ∥∥₁_prop (λ n.
      ∥∥₁_map (runs 𝓛 𝓜 𝓡 strict program (block input output) G calls f n.2.0 n.0.1 n.2.2) (λ u.
      record { fresh = n.0.0; after_new = n.0.1; began = n.1; at_end = u.0; made = u.1 }))

  all_right : (r : Run 𝓡.env input output image calls) → ∥ (AllRight blank r.made × HoldsImage r.at_end (block input output) (after_calls calls blank)) ∥₁
  all_right r =
      ∥∥₁_elim (new_ends 𝓛 𝓜 𝓡 strict program (block input output) image (start input output image) G h) ∥∥₁_prop (λ n.
      let one = ends-one (𝓡.env new-name) (vptr (block input output) 0 ∷ []) (start input output image) n.0 (r.fresh, r.after_new) n.1 r.began in
      let here : Has 𝓛 𝓜 𝓡 (block input output) n.2.0 G r.after_new = subst (λ (x : Val × Memory). Has 𝓛 𝓜 𝓡 (block input output) n.2.0 G x.1) one n.2.2 in
      let e = n.2.1.means in
      let Goal : Plain → Type 0 = λ s. AllRight s r.made × HoldsImage r.at_end (block input output) (after_calls calls s) in
      ∥∥₁_map (follow 𝓛 𝓜 𝓡 strict program (block input output) G r.made f n.2.0 (n.2.1.bytes ∙ ap encode_image (sym e)) (subst WellFormed (sym e) blank_well) here) (subst Goal e))

pub demand_3 : Demand3
unfolding capacity
demand_3 γ program image list bus practice origin cs input output fim f fi fo =
    let calls : List Call = opening list bus practice origin ∷ cs in
    let G : SProp Closed.𝓤 = sep Closed.𝓤 (run Closed.𝓤 Closed.H full_share w8 0 0 input) (run Closed.𝓤 Closed.H full_share w8 1 0 output) in
    let sat : Satisfies Closed.𝓤 Closed.H model⁺ (start_mem input output) G = start_Satisfies Closed.𝓤 Closed.H model⁺ input output (all_fit input fi) (all_fit output fo) in
    let begun = holds_image logic₀ model⁺ (𝓡₀ γ) size (start_mem input output) G sat image fim in (
      ∥∥₁_elim begun ∥∥₁_prop (λ h. ends_all logic₀ model⁺ (𝓡₀ γ) real⁺_strict program input output image calls f G h),
      λ r. ∥∥₁_elim begun ∥∥₁_prop (λ h. all_right logic₀ model⁺ (𝓡₀ γ) real⁺_strict program input output image calls f G h r),
    )
