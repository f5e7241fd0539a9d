-- One call.
use mathlib.Core.Path.{◌≡◌, sym, ap, subst}
use mathlib.Core.Logic.{∥∥₁_prop, ∥∥₁_elim, ∥∥₁_map}
use mathlib.Core.List.{List, [], ◌∷◌}
use Prim.Native.Nat.{ℕ}
use lib.Ieee.{binary64}
use lib.ListN.{length}
use seplogic.Ra.Ura.{Ura}
use mir.Syntax.{w32}
use mir.Val.{Val, vint, vbool, vfloat, vptr}
use base.Logic.{SProp}
use prog.Memory.{Memory}
use prog.Model.{Model}
use prog.Routine.{Env, ends-one}
use types.Logic.{Logic}
use contract.Running.{Running}
use Rattle.time_clock.proofs.Clock.TheLaws.{lowered as clock-value}
use Rattle.segment.specs.Plain.{Plain}
use Rattle.segment_image.specs.Image.{decode_image, encode_image, Exact}
use Rattle.search_walk.proofs.Seen.{WellFormed}
use Rattle.search.proofs.search.Symbol.{name as search-into-name}
use Rattle.jezynar.proofs.jezynar_segment_open.Symbol.{name as open-name}
use Rattle.jezynar.proofs.jezynar_segment_send.Symbol.{name as send-name}
use Rattle.jezynar.proofs.jezynar_segment_receive.Symbol.{name as receive-name}
use Rattle.jezynar.proofs.jezynar_segment_clear.Symbol.{name as clear-name}
use Rattle.jezynar.proofs.jezynar_segment_set_baud.Symbol.{name as set-baud-name}
use Rattle.jezynar.proofs.jezynar_segment_search.Symbol.{name as search-name}
use Rattle.theorem_calls.specs.Call.{Call, opening, sending, receiving, clearing, changing, searching, searching_into, after_call}
use Rattle.theorem_calls.specs.Fit.{FitCall}
use Rattle.theorem_calls.specs.Made.{with_bytes, with_records, lent_at, array_at, clock_then, Runs}
use Rattle.theorem_calls.specs.Read.{BytesIn}
use Rattle.theorem_calls.specs.Made.{HasProgram}
use Rattle.theorem_calls.specs.Demand3.{HoldsImage, Right}
use Rattle.theorem_calls.proofs.Machine.{Strict}
use Rattle.theorem_calls.proofs.Arguments.{loads_image}
use Rattle.theorem_calls.proofs.Gave.{means, exact, answered}
use Rattle.theorem_calls.proofs.Kept.{demands}
use Rattle.theorem_calls.proofs.Routines.{size, Has, Stepped, Ends, open_ends, send-ends, receive-ends, clear-ends, set_baud_ends, search_ends, search_into_ends}

-- a call ends in one way
pub runs_one : (γ : Env) (b : ℕ) (c : Call) (σ : Memory) (x y : Val × Memory) → Runs γ b c σ x.0 x.1 → Runs γ b c σ y.0 y.1 → x ≡ y
runs_one γ b (opening list bus practice origin) σ x y p q = ends-one (γ open-name) (vptr b 0 ∷ lent_at σ (length list) ∷ vint w32 bus ∷ vbool practice ∷ vfloat binary64 origin ∷ []) (with_bytes σ list) x y p q
runs_one γ b (sending piece k) σ x y p q = ends-one (γ send-name) (vptr b 0 ∷ lent_at σ (length piece) ∷ clock_then k []) (with_bytes σ piece) x y p q
runs_one γ b (receiving xs) σ x y p q = ends-one (γ receive-name) (vptr b 0 ∷ lent_at σ (length xs) ∷ []) (with_bytes σ xs) x y p q
runs_one γ b clearing σ x y p q = ends-one (γ clear-name) (vptr b 0 ∷ []) σ x y p q
runs_one γ b (changing baud) σ x y p q = ends-one (γ set-baud-name) (vptr b 0 ∷ vint w32 baud ∷ []) σ x y p q
runs_one γ b (searching k allowance xs su) σ x y p q =
    ends-one (γ search-name) (vptr b 0 ∷ clock_then k (vint w32 allowance ∷ lent_at σ (length xs) ∷ array_at (with_bytes σ xs) ∷ [])) (with_bytes (with_bytes σ xs) su) x y p q
runs_one γ b (searching_into k allowance lent) σ x y p q = ends-one (γ search-into-name) (vptr b 0 ∷ clock-value k ∷ vint w32 allowance ∷ lent_at σ (length lent) ∷ []) (with_records σ lent) x y p q

module _ {M : Type 1} {𝓤 : Ura M} (𝓛 : Logic 𝓤) (𝓜 : Model 𝓤 𝓛.H) (𝓡 : Running 𝓤 𝓛.H 𝓜) (strict : Strict 𝓤 𝓛 𝓜 𝓡) (w : HasProgram 𝓡.env) where
  pub step : (b : ℕ) (c : Call) → FitCall c → (bs : List ℕ) (σ : Memory) (G : SProp 𝓤) → Has 𝓛 𝓜 𝓡 b bs G σ → ∥ Ends 𝓛 𝓜 𝓡 b c bs σ G ∥₁
  step b (opening list bus practice origin) f bs σ G h = open_ends 𝓛 𝓜 𝓡 strict w b bs σ G h list bus practice origin f
  step b (sending piece k) f bs σ G h = send-ends 𝓛 𝓜 𝓡 strict w b bs σ G h piece k f
  step b (receiving xs) f bs σ G h = receive-ends 𝓛 𝓜 𝓡 strict w b bs σ G h xs f
  step b clearing f bs σ G h = clear-ends 𝓛 𝓜 𝓡 strict w b bs σ G h f
  step b (changing baud) f bs σ G h = set_baud_ends 𝓛 𝓜 𝓡 strict w b bs σ G h baud f
  step b (searching k allowance xs su) f bs σ G h = search_ends 𝓛 𝓜 𝓡 strict w b bs σ G h k allowance xs su f
  step b (searching_into k allowance lent) f bs σ G h = search_into_ends 𝓛 𝓜 𝓡 strict w b bs σ G h k allowance lent f

  pub step_any : (b : ℕ) (c : Call) → FitCall c → (bs : List ℕ) (σ : Memory) (G : SProp 𝓤) → Has 𝓛 𝓜 𝓡 b bs G σ → (x : Val × Memory) → Runs 𝓡.env b c σ x.0 x.1 → ∥ Stepped 𝓛 𝓜 𝓡 b c bs σ G x ∥₁
  step_any b c f bs σ G h x r = ∥∥₁_map (step b c f bs σ G h) (λ t. subst (Stepped 𝓛 𝓜 𝓡 b c bs σ G) (runs_one 𝓡.env b c σ t.0 x t.1 r) t.2)

  -- a memory that has the one image of a segment in block b: the machine loads it from there
  pub holds_one : (b : ℕ) (bs : List ℕ) (σ : Memory) (G : SProp 𝓤) → Exact bs → Has 𝓛 𝓜 𝓡 b bs G σ → ∥ HoldsImage σ b (decode_image bs) ∥₁
  holds_one b bs σ G x h = ∥∥₁_map (loads_image 𝓛 𝓜 𝓡 size bs b σ G h) (λ l. subst (BytesIn σ b) x l.0)

  -- any run of a call is right, and leaves the one image of the segment afterwards
  pub right : (b : ℕ) (c : Call) → FitCall c → (bs : List ℕ) → Exact bs → WellFormed (decode_image bs) → (σ : Memory) (G : SProp 𝓤) → Has 𝓛 𝓜 𝓡 b bs G σ → (r : Val) (σ₁ : Memory) → Runs 𝓡.env b c σ r σ₁
      → ∥ (Right b (decode_image bs) c σ r σ₁ × ((cs : List ℕ) × Exact cs × (decode_image cs ≡ after_call c (decode_image bs)) × Has 𝓛 𝓜 𝓡 b cs G σ₁)) ∥₁
  right b c f bs x well σ G h r σ₁ run =
      ∥∥₁_elim (step_any b c f bs σ G h (r, σ₁) run) ∥∥₁_prop (λ d.
      let cs : List ℕ = d.0 in
      let e = means c bs σ r σ₁ cs d.1 in
      let z = exact c bs σ r σ₁ cs d.1 x in
      let a = answered c bs σ r σ₁ cs d.1 in
      ∥∥₁_map (holds_one b cs σ₁ G z d.2) (λ l. (
        record { answers = a; image = subst (HoldsImage σ₁ b) e l; meant = subst (λ (t : Plain). decode_image (encode_image t) ≡ t) e (ap decode_image (sym z)); demands = demands c (decode_image bs) well },
        (cs, z, e, d.2),
      )))
