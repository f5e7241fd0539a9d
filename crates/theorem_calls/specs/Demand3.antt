-- DEMAND 3, of the library's calls on the language's machine: "one statement about the whole list, not one for each
-- call". It holds in every environment of the machine that has the program's code.
use Rattle.std.specs.Prelude.{◌≡◌, Bool, List, [], ◌∷◌, ℕ, Float, length}
use mir.Val.{Val, vptr}
use prog.AdequacyRun.{start_mem}
use prog.Memory.{Memory}
use prog.Routine.{Env, ends}
use Rattle.laws.specs.Words.{Every}
use Rattle.segment.specs.Plain.{Plain, blank}
use Rattle.segment_image.specs.Image.{decode_image, encode_image}
use Rattle.jezynar.proofs.jezynar_segment_new.Symbol.{name as new-name}
use Rattle.theorem_calls.specs.Call.{Call, opening, after_call, after_calls}
use Rattle.theorem_calls.specs.Answer.{answer_to, Demands}
use Rattle.theorem_calls.specs.Fit.{Byte, FitImage, FitCall}
use Rattle.theorem_calls.specs.Made.{HasProgram, with_bytes, Made, over, next}
use Rattle.theorem_calls.specs.Read.{BytesIn, Reads}

-- The machine begins in any memory that a program starts in, the input's bytes in block 0, the output's in block 1,
-- and one block more with the bytes that the caller lends for the image.
abbrev pub start : List ℕ → List ℕ → List ℕ → Memory
start input output image = with_bytes (start_mem input output) image

-- the image's block
abbrev pub block : List ℕ → List ℕ → ℕ
block input output = length (start_mem input output)

-- It makes a new segment in these bytes, whatever they are, and then the calls. Nothing is presupposed of the values
-- that it returns on the way.
pub record Run (γ : Env) (input output image : List ℕ) (calls : List Call) : Type 0 where
  -- `jezynar_segment_new` returned this
  pub fresh : Val
  pub after_new : Memory
  pub began : ends (γ new-name) (vptr (block input output) 0 ∷ []) (start input output image) fresh after_new
  -- the calls left this memory
  pub at_end : Memory
  pub made : Made γ (block input output) calls after_new at_end

-- block b holds, byte for byte, the one image of the segment s
abbrev pub HoldsImage : Memory → ℕ → Plain → Type 0
HoldsImage σ b s = BytesIn σ b (encode_image s)

-- The call c on the segment s, made in the memory σ, returned r and left the memory σ'
pub record Right (b : ℕ) (s : Plain) (c : Call) (σ : Memory) (r : Val) (σ' : Memory) : Type 0 where
  -- what it returned and wrote is 01's answer on s
  pub answers : Reads c σ r σ' (answer_to s c)
  -- it left the image of 01's segment
  pub image : HoldsImage σ' b (after_call c s)
  -- and read back, these bytes are that segment in all its parts
  pub meant : decode_image (encode_image (after_call c s)) ≡ after_call c s
  -- if it is a search that was not refused: the walk's entries, probes, spent and segment over s; price, order, each
  -- meter in exactly one entry, and the bound
  pub demands : Demands s c

-- each of the calls, on the segment that those before it left
abbrev pub AllRight : {γ : Env} {b : ℕ} {cs : List Call} {σ σ' : Memory} → Plain → Made γ b cs σ σ' → Type 0
AllRight s over = Unit {0}
AllRight {b} s (next {c} {σ = σ} r σ₁ run rest) = Right b s c σ r σ₁ × AllRight (after_call c s) rest

-- "Demand 3's lists begin with an opening, accepted or not". The plain segment is fed the calls' arguments alone;
-- `blank` is the segment that a refused first opening gives.
-- `∥ A ∥₁` is: there is an A.
abbrev pub Demand3 : Type 0
Demand3 = (γ : Env) → HasProgram γ → (image list : List ℕ) (bus : ℕ) (practice : Bool) (origin : Float) (cs : List Call) (input output : List ℕ)
    → let calls = opening list bus practice origin ∷ cs in
    FitImage image → Every FitCall calls → Every Byte input → Every Byte output
    -- every such list runs to its end
    → ∥ Run γ input output image calls ∥₁
    -- and in any run of it each call is right, and the last one left the image of the plain segment after all of them
    × ((r : Run γ input output image calls) → ∥ (AllRight blank r.made × HoldsImage r.at_end (block input output) (after_calls calls blank)) ∥₁)
