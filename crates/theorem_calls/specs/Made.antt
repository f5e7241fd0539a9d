-- The machine makes a list of calls with the program's own routines: those of the library's calls, which the entry
-- points of the static library hand on, and the search over lent entry records.
-- The segment's image lies in one block from the first call to the last. No contract is named here, and nothing of
-- the logic.
--     γ name               what the machine does at a call of that function, its routine. γ, an environment, has a
--                          routine for each name; it is any that has the program's code, below
--     ends ρ vs σ v σ'     the machine, called at the routine ρ with the machine values vs in the memory σ, comes to
--                          its end: it returns v, and the memory is then σ'. It ends in one way
--     vptr b 0             a pointer to the first byte of block b
--     X-value              a struct as the machine has it: the values of its fields, in the order written
use Rattle.std.specs.Prelude.{List, [], ◌∷◌, ℕ, length}
use Rattle.std.specs.Float.{binary64}
use mir.Syntax.{w8, w32, ty_int}
use mir.Val.{Val, vint, vbool, vfloat, vptr}
use prog.Memory.{Memory}
use prog.Routine.{Env, ends}
use prog.Wired.{Wired}
use denote.Slice.{slice_val}
use Rattle.time_clock.specs.declared.Clock.{Clock}
use Rattle.time_clock.proofs.Clock.TheLaws.{lowered as clock-value}
use Rattle.search.proofs.EntryRecord.TheLaws.{mir as record-ty, lowered as record-value}
use Rattle.search.proofs.search.Symbol.{name as search-into-name, code as search-into-code}
use Rattle.search.specs.declared.EntryRecord.{EntryRecord}
use Rattle.jezynar.proofs.jezynar_segment_new.Symbol.{code as new-code}
use Rattle.jezynar.proofs.jezynar_segment_open.Symbol.{name as open-name, code as open-code}
use Rattle.jezynar.proofs.jezynar_segment_send.Symbol.{name as send-name, code as send-code}
use Rattle.jezynar.proofs.jezynar_segment_receive.Symbol.{name as receive-name, code as receive-code}
use Rattle.jezynar.proofs.jezynar_segment_clear.Symbol.{name as clear-name, code as clear-code}
use Rattle.jezynar.proofs.jezynar_segment_set_baud.Symbol.{name as set-baud-name, code as set-baud-code}
use Rattle.jezynar.proofs.jezynar_segment_search.Symbol.{name as search-name, code as search-code}
use Rattle.theorem_calls.specs.Call.{Call, opening, sending, receiving, clearing, changing, searching, searching_into}
use Rattle.theorem_calls.specs.Lent.{holding}

-- the memory σ with one block more, which holds the bytes
abbrev pub with_bytes : Memory → List ℕ → Memory
with_bytes σ bs = holding (ty_int w8) (vint w8) σ bs

-- the memory σ with one block more, which holds the entry records
abbrev pub with_records : Memory → List EntryRecord → Memory
with_records σ es = holding record-ty record-value σ es

-- a slice of n elements, from place 0 of the block that comes next after those of σ
abbrev pub lent_at : Memory → ℕ → Val
lent_at σ n = slice_val (length σ, 0) n

-- a pointer to an array in that block
abbrev pub array_at : Memory → Val
array_at σ = vptr (length σ) 0

-- a clock's six numbers, before other arguments
abbrev pub clock_then : Clock → List Val → List Val
clock_then k vs = vfloat binary64 k.now ∷ vint w32 k.year ∷ vint w32 k.month ∷ vint w32 k.day ∷ vint w32 k.hour ∷ vint w32 k.minute ∷ vs

-- γ has the program's code: at the name of each of these functions, and of each function that is called from them, it
-- does what that function's own code does. proofs/LinkedProgram makes such an environment of any look-up that has the code
pub record HasProgram (γ : Env) : Type 0 where
  pub at_new : Wired γ new-code
  pub at_open : Wired γ open-code
  pub at_send : Wired γ send-code
  pub at_receive : Wired γ receive-code
  pub at_clear : Wired γ clear-code
  pub at_set_baud : Wired γ set-baud-code
  pub at_search : Wired γ search-code
  pub at_search_into : Wired γ search-into-code

-- One call on the image in block b, in the memory σ. Everything else that is lent lies in a block of its own: a
-- search has one for the entries, and behind it one for the summary.
abbrev pub Runs : Env → ℕ → Call → Memory → Val → Memory → Type 0
Runs γ b (opening list bus practice origin) σ r σ' = ends (γ open-name) (vptr b 0 ∷ lent_at σ (length list) ∷ vint w32 bus ∷ vbool practice ∷ vfloat binary64 origin ∷ []) (with_bytes σ list) r σ'
Runs γ b (sending piece k) σ r σ' = ends (γ send-name) (vptr b 0 ∷ lent_at σ (length piece) ∷ clock_then k []) (with_bytes σ piece) r σ'
Runs γ b (receiving lent) σ r σ' = ends (γ receive-name) (vptr b 0 ∷ lent_at σ (length lent) ∷ []) (with_bytes σ lent) r σ'
Runs γ b clearing σ r σ' = ends (γ clear-name) (vptr b 0 ∷ []) σ r σ'
Runs γ b (changing baud) σ r σ' = ends (γ set-baud-name) (vptr b 0 ∷ vint w32 baud ∷ []) σ r σ'
Runs γ b (searching k allowance entries summary) σ r σ' =
    ends (γ search-name) (vptr b 0 ∷ clock_then k (vint w32 allowance ∷ lent_at σ (length entries) ∷ array_at (with_bytes σ entries) ∷ [])) (with_bytes (with_bytes σ entries) summary) r σ'
Runs γ b (searching_into k allowance lent) σ r σ' = ends (γ search-into-name) (vptr b 0 ∷ clock-value k ∷ vint w32 allowance ∷ lent_at σ (length lent) ∷ []) (with_records σ lent) r σ'

-- The calls, from the memory σ to the memory σ': each in the memory that the one before left, whatever it returned
pub data Made (γ : Env) (b : ℕ) : List Call → Memory → Memory → Type 0 where
  over : {σ : Memory} → Made γ b [] σ σ
  next : {c : Call} {cs : List Call} {σ σ' : Memory} (r : Val) (σ₁ : Memory) → Runs γ b c σ r σ₁ → Made γ b cs σ₁ σ' → Made γ b (c ∷ cs) σ σ'
