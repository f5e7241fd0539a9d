-- What the machine's calls returned and wrote, read as 01's answers.
use Rattle.std.specs.Prelude.{◌≡◌, false, List, ℕ, ◌/◌, ◌%◌, length, Result, Ok, Err}
use mir.Syntax.{w8, w32, w64, ty_int}
use mir.Val.{Val, vint, vunit}
use prog.Memory.{Memory}
use Rattle.search.specs.declared.EntryRecord.{EntryRecord}
use Rattle.search.specs.declared.Searched.{Searched}
use Rattle.search.specs.declared.SearchError.{SearchError}
use Rattle.search.specs.View.{error_number}
use Rattle.search.specs.contracts.Searched.{the_row as searched-row}
use Rattle.search.specs.contracts.SearchError.{the_row as error-row}
use Rattle.search.proofs.EntryRecord.TheLaws.{mir as record-ty, lowered as record-value}
use Rattle.search.proofs.Searched.TheLaws as searched-laws
use Rattle.search.proofs.SearchError.TheLaws as error-laws
use Rattle.std.proofs.result.Result.TheLaws as result-laws
use Rattle.laws.specs.Refusal.{not_refused}
use Rattle.theorem_calls.specs.Call.{Call, opening, sending, receiving, clearing, changing, searching, searching_into}
use Rattle.theorem_calls.specs.Answer.{Answer, opened, sent, received, cleared, changed, searched, searched_into}
use Rattle.theorem_calls.specs.Lent.{Loads}
use Rattle.theorem_calls.specs.Made.{with_bytes}

-- the machine loads these bytes, these records, from block b
abbrev pub BytesIn : Memory → ℕ → List ℕ → Type 0
BytesIn σ b bs = Loads (ty_int w8) (vint w8) σ b 0 bs

abbrev pub RecordsIn : Memory → ℕ → List EntryRecord → Type 0
RecordsIn σ b es = Loads record-ty record-value σ b 0 es

-- what a search returns, as the machine has it
abbrev pub result-value : Result Searched SearchError → Val
result-value =
    result-laws.lowered searched-row error-row searched-laws.the_row_laws error-laws.the_row_laws searched-laws.the_told error-laws.the_told

-- and the answer that it means, with the lent records afterwards
abbrev pub into_answer : Result Searched SearchError → List EntryRecord → Answer
into_answer (Ok x) es = searched_into not_refused x.count x.probes x.spent es
into_answer (Err e) es = searched_into (error_number e) 0 0 false es

-- A call that was made in the memory σ returned r, and the memory is then σ': that is the answer a. What is lent lies
-- where `Runs` puts it.
-- An opening's number stands in the low byte of what it returns, its index above; a send's in the high half, and how
-- many bytes are due in the low one. A list and a piece, which are lent to be read alone, are there as they were.
abbrev pub Reads : Call → Memory → Val → Memory → Answer → Type 0
Reads (opening list bus practice origin) σ r σ' a = (n : ℕ) × (r ≡ vint w32 n) × BytesIn σ' (length σ) list × (a ≡ opened (n % 256) (n / 256))
Reads (sending piece k) σ r σ' a = (n : ℕ) × (r ≡ vint w32 n) × BytesIn σ' (length σ) piece × (a ≡ sent (n / 65536) (n % 65536))
Reads (receiving lent) σ r σ' a = (n : ℕ) × (bs : List ℕ) × (r ≡ vint w64 n) × BytesIn σ' (length σ) bs × (a ≡ received n bs)
Reads clearing σ r σ' a = (r ≡ vunit) × (a ≡ cleared)
Reads (changing baud) σ r σ' a = (n : ℕ) × (r ≡ vint w32 n) × (a ≡ changed n)
Reads (searching k allowance entries summary) σ r σ' a =
    (n : ℕ) × (es : List ℕ) × (su : List ℕ) × (r ≡ vint w32 n) × BytesIn σ' (length σ) es × BytesIn σ' (length (with_bytes σ entries)) su × (a ≡ searched n es su)
Reads (searching_into k allowance lent) σ r σ' a =
    (x : Result Searched SearchError) × (es : List EntryRecord) × (r ≡ result-value x) × RecordsIn σ' (length σ) es × (a ≡ into_answer x es)
