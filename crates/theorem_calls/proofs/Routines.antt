-- Each routine, from any memory that has the image in block b: it runs to its end, and what it returns and leaves is
-- what the contract says.
use mathlib.Core.Path.{◌≡◌}
use mathlib.Core.Bool.{Bool}
use mathlib.Core.Logic.{∥∥₁_prop, ∥∥₁_elim, ∥∥₁_map}
use mathlib.Core.List.{List, [], ◌∷◌, head-eq_of_cons-eq}
use Prim.Native.Nat.{ℕ, ◌/◌, ◌%◌}
use lib.Ieee.{Float, binary64}
use lib.ListN.{length}
use seplogic.Ra.Ura.{Ura}
use base.Fraction.{full_share}
use mir.Syntax.{w32}
use mir.Val.{Val, vint, vbool, vfloat, vptr}
use base.Logic.{SProp, ent, sep, emp, ex, id⊢}
use prog.Memory.{Memory}
use prog.Model.{Model}
use prog.Routine.{ends}
use types.Logic.{Logic}
use contract.Monad.{fact}
use contract.Running.{Running}
use contract.Adequate.{Satisfies}
use Rattle.time_clock.specs.declared.Clock.{Clock}
use Rattle.segment.specs.Plain.{blank}
use Rattle.segment.specs.Calls.{receive, clear, change_baud}
use Rattle.segment_send.specs.Send.{send}
use Rattle.segment_send.specs.View.{SentImage}
use Rattle.segment_image.specs.Image.{decode_image, IsImage}
use Rattle.segment_image.specs.Answers.{DoneImage, OpenedImage, ReceivedImage, LeftImage}
use Rattle.time_clock.proofs.Clock.TheLaws as clock-laws
use Rattle.search.specs.declared.EntryRecord.{EntryRecord}
use Rattle.search.specs.declared.Searched.{Searched}
use Rattle.search.specs.View.{SearchesInto}
use Rattle.search.proofs.Searched.TheLaws as searched-laws
use Rattle.search.proofs.SearchError.TheLaws as error-laws
use Rattle.search.specs.declared.SearchError.{SearchError}
use Rattle.search.specs.contracts.Searched.{the_row as searched-row}
use Rattle.search.specs.contracts.SearchError.{the_row as error-row}
use Rattle.std.specs.Prelude.{Result}
use Rattle.std.proofs.result.Result.TheLaws as result-laws
use Rattle.search.specs.contracts.search as search-into-contract
use Rattle.search.proofs.search.Symbol.{name as search-into-name}
use Rattle.search.proofs.search.Met as search-into-met
use Rattle.c_search.specs.Searches.{search_by, Searches}
use Rattle.jezynar.specs.contracts.jezynar_segment_new as new-contract
use Rattle.jezynar.proofs.jezynar_segment_new.Symbol.{name as new-name}
use Rattle.jezynar.proofs.jezynar_segment_new.Met as new-met
use Rattle.jezynar.specs.contracts.jezynar_segment_open as open-contract
use Rattle.jezynar.proofs.jezynar_segment_open.Symbol.{name as open-name}
use Rattle.jezynar.proofs.jezynar_segment_open.Met as open-met
use Rattle.jezynar.specs.contracts.jezynar_segment_send as send-contract
use Rattle.jezynar.proofs.jezynar_segment_send.Symbol.{name as send-name}
use Rattle.jezynar.proofs.jezynar_segment_send.Met as send-met
use Rattle.jezynar.specs.contracts.jezynar_segment_receive as receive-contract
use Rattle.jezynar.proofs.jezynar_segment_receive.Symbol.{name as receive-name}
use Rattle.jezynar.proofs.jezynar_segment_receive.Met as receive-met
use Rattle.jezynar.specs.contracts.jezynar_segment_clear as clear-contract
use Rattle.jezynar.proofs.jezynar_segment_clear.Symbol.{name as clear-name}
use Rattle.jezynar.proofs.jezynar_segment_clear.Met as clear-met
use Rattle.jezynar.specs.contracts.jezynar_segment_set_baud as set-baud-contract
use Rattle.jezynar.proofs.jezynar_segment_set_baud.Symbol.{name as set-baud-name}
use Rattle.jezynar.proofs.jezynar_segment_set_baud.Met as set-baud-met
use Rattle.jezynar.specs.contracts.jezynar_segment_search as search-contract
use Rattle.jezynar.proofs.jezynar_segment_search.Symbol.{name as search-name}
use Rattle.jezynar.proofs.jezynar_segment_search.Met as search-met
use Rattle.theorem_calls.specs.Call.{Call, opening, sending, receiving, clearing, changing, searching, searching_into}
use Rattle.theorem_calls.specs.Fit.{FitCall}
use Rattle.theorem_calls.specs.Made.{HasProgram, with_bytes, with_records, lent_at, array_at, Runs}
use Rattle.theorem_calls.proofs.Gave.{Gave}
use Rattle.theorem_calls.proofs.Machine.{Strict}
use Rattle.theorem_calls.proofs.Loans.{ref_to, shared_to, Arg, Index, Values, tokens, givens, finals, called}
use Rattle.theorem_calls.proofs.Arguments.{word, double, flag, clock_arg, clock_then_lem, array, bytes, shared_bytes, records, Image, Bytes, Records, holds_bytes, holds_records, holds_image, loads_bytes, loads_records, loads_image}
use Rattle.theorem_calls.proofs.Beside.{alone, beside, beside_two, kept, first, second}

-- the image's length
abbrev pub size : ℕ
size = 5974

one : {v w : Val} → v ∷ [] ≡ w ∷ [] → v ≡ w
one e = head-eq_of_cons-eq e

module _ {M : Type 1} {𝓤 : Ura M} (𝓛 : Logic 𝓤) (𝓜 : Model 𝓤 𝓛.H) (𝓡 : Running 𝓤 𝓛.H 𝓜) where
  -- the memory σ has the image's bytes bs in block b, and beside it G
  open 𝓛 use {H}

  abbrev pub Has : ℕ → List ℕ → SProp 𝓤 → Memory → Type 1
  Has b bs G σ = Satisfies 𝓤 H 𝓜 σ (sep 𝓤 (Image 𝓛 𝓜 𝓡 size b bs) G)

  -- what holds after a call that returned x .0 and left the memory x .1
  abbrev pub Stepped : ℕ → Call → List ℕ → Memory → SProp 𝓤 → Val × Memory → Type 1
  Stepped b c bs σ G x = (cs : List ℕ) × Gave c bs σ x.0 x.1 cs × Has b cs G x.1

  abbrev pub Ends : ℕ → Call → List ℕ → Memory → SProp 𝓤 → Type 1
  Ends b c bs σ G = (x : Val × Memory) × Runs 𝓡.env b c σ x.0 x.1 × Stepped b c bs σ G x

  -- a call is entered with its arguments, and left with their last values
  module _ (as' : List (Arg 𝓛)) where
    abbrev enters : (i : Index 𝓛 as') → ent 𝓤 (sep 𝓤 (sep 𝓤 (tokens 𝓛 as' i) (givens 𝓛 as' i)) (emp 𝓤)) (sep 𝓤 (sep 𝓤 (tokens 𝓛 as' i) (givens 𝓛 as' i)) (emp 𝓤))
    enters i = id⊢ 𝓤 (sep 𝓤 (sep 𝓤 (tokens 𝓛 as' i) (givens 𝓛 as' i)) (emp 𝓤))

    abbrev lives : (i : Index 𝓛 as') → ent 𝓤 (tokens 𝓛 as' i) (tokens 𝓛 as' i)
    lives i = id⊢ 𝓤 (tokens 𝓛 as' i)

    abbrev Said : {R : Type 0} → (R → Values 𝓛 as' → Type 0) → Index 𝓛 as' → R → SProp 𝓤
    Said φ i r = ex 𝓤 (λ (w : Values 𝓛 as'). sep 𝓤 (finals 𝓛 as' i w) (fact 𝓤 (φ r w)))

    abbrev says : {R : Type 0} (φ : R → Values 𝓛 as' → Type 0) (i : Index 𝓛 as') (r : R) → ent 𝓤 (Said φ i r) (Said φ i r)
    says φ i r = id⊢ 𝓤 (Said φ i r)

  module _ (strict : Strict 𝓤 𝓛 𝓜 𝓡) (program : HasProgram 𝓡.env) (b : ℕ) (bs : List ℕ) (σ : Memory) (G : SProp 𝓤) (s : Has b bs G σ) where
    abbrev Im : List ℕ → SProp 𝓤
    Im = Image 𝓛 𝓜 𝓡 size b

    abbrev image : Arg 𝓛
    image = array 𝓛 𝓜 𝓡 size b bs

    pub new_ends : ∥ ((x : Val × Memory) × ends (𝓡.env new-name) (vptr b 0 ∷ []) σ x.0 x.1 × ((cs : List ℕ) × IsImage blank cs × Has b cs G x.1)) ∥₁
    new_ends =
        let as' : List (Arg 𝓛) = image ∷ [] in
        let φ : Unit {0} → Values 𝓛 as' → Type 0 = λ r w. IsImage blank w.0 in
        ∥∥₁_map (called 𝓛 𝓜 𝓡 strict new-contract.signature (𝓡.env new-name) (new-contract.spec 𝓛 𝓜.mem 𝓡.returns) (new-met.met 𝓤 𝓛 𝓜 𝓡 program.at_new) as'
        (λ i. (((i.0.0 ∷ [], tt), (full_share, tt), tt, (ref_to b i.0.1 bs, tt), (vptr b 0 ∷ [], tt)), tt)) σ G
        (enters as') (lives as') (λ i. φ) (says as' φ)
        (alone 𝓛 𝓜 𝓡 σ (Im bs) G s)) (λ t. ((t.1, t.2), t.5, (t.4.0, t.7, kept 𝓛 𝓜 𝓡 t.2 (Im t.4.0) G (emp 𝓤) t.8)))

    pub clear-ends : FitCall clearing → ∥ Ends b clearing bs σ G ∥₁
    clear-ends f =
        let as' : List (Arg 𝓛) = image ∷ [] in
        let φ : Unit {0} → Values 𝓛 as' → Type 0 = λ r w. LeftImage (clear (decode_image bs)) bs w.0 in
        ∥∥₁_map (called 𝓛 𝓜 𝓡 strict clear-contract.signature (𝓡.env clear-name) (clear-contract.spec 𝓛 𝓜.mem 𝓡.returns) (clear-met.met 𝓤 𝓛 𝓜 𝓡 program.at_clear) as'
        (λ i. (((i.0.0 ∷ [], tt), (full_share, tt), tt, (ref_to b i.0.1 bs, tt), (vptr b 0 ∷ [], tt)), tt)) σ G
        (enters as') (lives as') (λ i. φ) (says as' φ)
        (alone 𝓛 𝓜 𝓡 σ (Im bs) G s)) (λ t. ((t.1, t.2), t.5, (t.4.0, (one t.6, t.7), kept 𝓛 𝓜 𝓡 t.2 (Im t.4.0) G (emp 𝓤) t.8)))

    pub set_baud_ends : (baud : ℕ) → FitCall (changing baud) → ∥ Ends b (changing baud) bs σ G ∥₁
    set_baud_ends baud f =
        let as' : List (Arg 𝓛) = image ∷ word 𝓛 𝓜 𝓡 baud f ∷ [] in
        let φ : ℕ → Values 𝓛 as' → Type 0 = λ r w. DoneImage (change_baud baud (decode_image bs)) r bs w.0 in
        ∥∥₁_map (called 𝓛 𝓜 𝓡 strict set-baud-contract.signature (𝓡.env set-baud-name) (set-baud-contract.spec 𝓛 𝓜.mem 𝓡.returns) (set-baud-met.met 𝓤 𝓛 𝓜 𝓡 program.at_set_baud) as'
        (λ i. (((i.0.0 ∷ [], tt), (full_share, tt), tt, (ref_to b i.0.1 bs, (baud, tt)), (vptr b 0 ∷ [], (vint w32 baud ∷ [], tt))), tt)) σ G
        (enters as') (lives as') (λ i. φ) (says as' φ)
        (alone 𝓛 𝓜 𝓡 σ (Im bs) G s)) (λ t. ((t.1, t.2), t.5, (t.4.0, (t.3, one t.6.0, t.7), kept 𝓛 𝓜 𝓡 t.2 (Im t.4.0) G (emp 𝓤) t.8)))

    pub open_ends : (list : List ℕ) (bus : ℕ) (practice : Bool) (origin : Float) → FitCall (opening list bus practice origin) → ∥ Ends b (opening list bus practice origin) bs σ G ∥₁
    open_ends list bus practice origin f =
        let as' : List (Arg 𝓛) = image ∷ shared_bytes 𝓛 𝓜 𝓡 (length σ) list f.0.1 ∷ word 𝓛 𝓜 𝓡 bus f.1.0 ∷ flag 𝓛 𝓜 𝓡 practice ∷ double 𝓛 𝓜 𝓡 origin f.1.1 ∷ [] in
        let φ : ℕ → Values 𝓛 as' → Type 0 = λ r w. OpenedImage list bus practice origin (r % 256) (r / 256) bs w.0 in
        let Xs : SProp 𝓤 = Bytes 𝓛 𝓜 𝓡 (length σ) list in
        ∥∥₁_elim (holds_bytes 𝓛 𝓜 𝓡 σ (sep 𝓤 (Im bs) G) s list f.0.0) ∥∥₁_prop (λ there.
        ∥∥₁_elim (called 𝓛 𝓜 𝓡 strict open-contract.signature (𝓡.env open-name) (open-contract.spec 𝓛 𝓜.mem 𝓡.returns) (open-met.met 𝓤 𝓛 𝓜 𝓡 program.at_open) as'
        (λ i. (((i.0.0 ∷ [], (i.1.0.0 ∷ [], tt)), (full_share, (full_share, tt)), tt, (ref_to b i.0.1 bs, (shared_to (length σ) list, (bus, (practice, (origin, tt))))), (vptr b 0 ∷ [], (lent_at σ (length list) ∷ [], (vint w32 bus ∷ [], (vbool practice ∷ [], (vfloat binary64 origin ∷ [], tt)))))), tt)) (with_bytes σ list) G
        (enters as') (lives as') (λ i. φ) (says as' φ)
        (beside 𝓛 𝓜 𝓡 (with_bytes σ list) (Im bs) G Xs there)) ∥∥₁_prop (λ t.
        ∥∥₁_map (loads_bytes 𝓛 𝓜 𝓡 list (length σ) t.2 G (first 𝓛 𝓜 𝓡 t.2 (Im t.4.0) G Xs (emp 𝓤) t.8)) (λ l.
        ((t.1, t.2), t.5, (t.4.0, (t.3, one t.6.0, l, t.7), kept 𝓛 𝓜 𝓡 t.2 (Im t.4.0) G (sep 𝓤 Xs (emp 𝓤)) t.8)))))

    pub send-ends : (piece : List ℕ) (k : Clock) → FitCall (sending piece k) → ∥ Ends b (sending piece k) bs σ G ∥₁
    send-ends piece k f =
        let as' : List (Arg 𝓛) = image ∷ shared_bytes 𝓛 𝓜 𝓡 (length σ) piece f.0.1 ∷ clock_then_lem 𝓛 𝓜 𝓡 k f.1 [] in
        let φ : ℕ → Values 𝓛 as' → Type 0 = λ r w. SentImage (send piece k (decode_image bs)) (r / 65536) (r % 65536) bs w.0 in
        let Xs : SProp 𝓤 = Bytes 𝓛 𝓜 𝓡 (length σ) piece in
        ∥∥₁_elim (holds_bytes 𝓛 𝓜 𝓡 σ (sep 𝓤 (Im bs) G) s piece f.0.0) ∥∥₁_prop (λ there.
        ∥∥₁_elim (called 𝓛 𝓜 𝓡 strict send-contract.signature (𝓡.env send-name) (send-contract.spec 𝓛 𝓜.mem 𝓡.returns) (send-met.met 𝓤 𝓛 𝓜 𝓡 program.at_send) as'
        (λ i. (((i.0.0 ∷ [], (i.1.0.0 ∷ [], tt)), (full_share, (full_share, tt)), tt, (ref_to b i.0.1 bs, (shared_to (length σ) piece, (k.now, (k.year, (k.month, (k.day, (k.hour, (k.minute, tt)))))))), (vptr b 0 ∷ [], (lent_at σ (length piece) ∷ [], (vfloat binary64 k.now ∷ [], (vint w32 k.year ∷ [], (vint w32 k.month ∷ [], (vint w32 k.day ∷ [], (vint w32 k.hour ∷ [], (vint w32 k.minute ∷ [], tt))))))))), tt)) (with_bytes σ piece) G
        (enters as') (lives as') (λ i. φ) (says as' φ)
        (beside 𝓛 𝓜 𝓡 (with_bytes σ piece) (Im bs) G Xs there)) ∥∥₁_prop (λ t.
        ∥∥₁_map (loads_bytes 𝓛 𝓜 𝓡 piece (length σ) t.2 G (first 𝓛 𝓜 𝓡 t.2 (Im t.4.0) G Xs (emp 𝓤) t.8)) (λ l.
        ((t.1, t.2), t.5, (t.4.0, (t.3, one t.6.0, l, t.7), kept 𝓛 𝓜 𝓡 t.2 (Im t.4.0) G (sep 𝓤 Xs (emp 𝓤)) t.8)))))

    pub receive-ends : (xs : List ℕ) → FitCall (receiving xs) → ∥ Ends b (receiving xs) bs σ G ∥₁
    receive-ends xs f =
        let as' : List (Arg 𝓛) = image ∷ bytes 𝓛 𝓜 𝓡 (length σ) xs f.1 ∷ [] in
        let φ : ℕ → Values 𝓛 as' → Type 0 = λ r w. ReceivedImage (receive xs (decode_image bs)) r w.1.0 bs w.0 in
        ∥∥₁_elim (holds_bytes 𝓛 𝓜 𝓡 σ (sep 𝓤 (Im bs) G) s xs f.0) ∥∥₁_prop (λ there.
        ∥∥₁_elim (called 𝓛 𝓜 𝓡 strict receive-contract.signature (𝓡.env receive-name) (receive-contract.spec 𝓛 𝓜.mem 𝓡.returns) (receive-met.met 𝓤 𝓛 𝓜 𝓡 program.at_receive) as'
        (λ i. (((i.0.0 ∷ [], (i.1.0.0 ∷ [], tt)), (full_share, (full_share, tt)), tt, (ref_to b i.0.1 bs, (ref_to (length σ) i.1.0.1 xs, tt)), (vptr b 0 ∷ [], (lent_at σ (length xs) ∷ [], tt))), tt)) (with_bytes σ xs) G
        (enters as') (lives as') (λ i. φ) (says as' φ)
        (beside 𝓛 𝓜 𝓡 (with_bytes σ xs) (Im bs) G (Bytes 𝓛 𝓜 𝓡 (length σ) xs) there)) ∥∥₁_prop (λ t.
        let Ys : SProp 𝓤 = Bytes 𝓛 𝓜 𝓡 (length σ) t.4.1.0 in
        ∥∥₁_map (loads_bytes 𝓛 𝓜 𝓡 t.4.1.0 (length σ) t.2 G (first 𝓛 𝓜 𝓡 t.2 (Im t.4.0) G Ys (emp 𝓤) t.8)) (λ l.
        ((t.1, t.2), t.5, (t.4.0, (t.3, t.4.1.0, one t.6.0, l, t.7), kept 𝓛 𝓜 𝓡 t.2 (Im t.4.0) G (sep 𝓤 Ys (emp 𝓤)) t.8)))))

    pub search_ends : (k : Clock) (allowance : ℕ) (xs su : List ℕ) → FitCall (searching k allowance xs su) → ∥ Ends b (searching k allowance xs su) bs σ G ∥₁
    search_ends k allowance xs su f =
        let σ₁ : Memory = with_bytes σ xs in
        let as' : List (Arg 𝓛) = image ∷ clock_then_lem 𝓛 𝓜 𝓡 k f.0 (word 𝓛 𝓜 𝓡 allowance f.1.0 ∷ bytes 𝓛 𝓜 𝓡 (length σ) xs f.1.1.0.1 ∷ array 𝓛 𝓜 𝓡 12 (length σ₁) su ∷ []) in
        let φ : ℕ → Values 𝓛 as' → Type 0 = λ r w. Searches (search_by k allowance xs (decode_image bs)) r bs w.0 xs w.1.1.1.1.1.1.1.1.0 su w.1.1.1.1.1.1.1.1.1.0 in
        ∥∥₁_elim (holds_bytes 𝓛 𝓜 𝓡 σ (sep 𝓤 (Im bs) G) s xs f.1.1.0.0) ∥∥₁_prop (λ there₁.
        ∥∥₁_elim (holds_image 𝓛 𝓜 𝓡 12 σ₁ (sep 𝓤 (Bytes 𝓛 𝓜 𝓡 (length σ) xs) (sep 𝓤 (Im bs) G)) there₁ su f.1.1.1) ∥∥₁_prop (λ there.
        ∥∥₁_elim (called 𝓛 𝓜 𝓡 strict search-contract.signature (𝓡.env search-name) (search-contract.spec 𝓛 𝓜.mem 𝓡.returns) (search-met.met 𝓤 𝓛 𝓜 𝓡 program.at_search) as'
        (λ i. (
          (
            (i.0.0 ∷ [], (i.1.0.0 ∷ [], (i.1.1.0.0 ∷ [], tt))),
            (full_share, (full_share, (full_share, tt))),
            tt,
            (ref_to b i.0.1 bs, (k.now, (k.year, (k.month, (k.day, (k.hour, (k.minute, (allowance, (ref_to (length σ) i.1.0.1 xs, (ref_to (length σ₁) i.1.1.0.1 su, tt)))))))))),
            (vptr b 0 ∷ [], (vfloat binary64 k.now ∷ [], (vint w32 k.year ∷ [], (vint w32 k.month ∷ [], (vint w32 k.day ∷ [], (vint w32 k.hour ∷ [], (vint w32 k.minute ∷ [], (vint w32 allowance ∷ [], (lent_at σ (length xs) ∷ [], (array_at σ₁ ∷ [], tt)))))))))),
          ),
          tt,
        )) (with_bytes σ₁ su) G
        (enters as') (lives as') (λ i. φ) (says as' φ)
        (beside_two 𝓛 𝓜 𝓡 (with_bytes σ₁ su) (Im bs) G (Bytes 𝓛 𝓜 𝓡 (length σ) xs) (Image 𝓛 𝓜 𝓡 12 (length σ₁) su) there)) ∥∥₁_prop (λ t.
        let ys : List ℕ = t.4.1.1.1.1.1.1.1.1.0 in
        let zs : List ℕ = t.4.1.1.1.1.1.1.1.1.1.0 in
        let Ys : SProp 𝓤 = Bytes 𝓛 𝓜 𝓡 (length σ) ys in
        let Zs : SProp 𝓤 = Image 𝓛 𝓜 𝓡 12 (length σ₁) zs in
        ∥∥₁_elim (loads_bytes 𝓛 𝓜 𝓡 ys (length σ) t.2 G (first 𝓛 𝓜 𝓡 t.2 (Im t.4.0) G Ys (sep 𝓤 Zs (emp 𝓤)) t.8)) ∥∥₁_prop (λ l.
        ∥∥₁_map (loads_image 𝓛 𝓜 𝓡 12 zs (length σ₁) t.2 G (second 𝓛 𝓜 𝓡 t.2 (Im t.4.0) G Ys Zs (emp 𝓤) t.8)) (λ l'.
        ((t.1, t.2), t.5, (t.4.0, (t.3, ys, zs, one t.6.0, l, l'.0, t.7), kept 𝓛 𝓜 𝓡 t.2 (Im t.4.0) G (sep 𝓤 Ys (sep 𝓤 Zs (emp 𝓤))) t.8)))))))

    pub search_into_ends : (k : Clock) (allowance : ℕ) (lent : List EntryRecord) → FitCall (searching_into k allowance lent) → ∥ Ends b (searching_into k allowance lent) bs σ G ∥₁
    search_into_ends k allowance lent f =
        let as' : List (Arg 𝓛) = image ∷ clock_arg 𝓛 𝓜 𝓡 k f.0 ∷ word 𝓛 𝓜 𝓡 allowance f.1.0 ∷ records 𝓛 𝓜 𝓡 (length σ) lent f.1.1.1 ∷ [] in
        let φ : Result Searched SearchError → Values 𝓛 as' → Type 0 = λ r w. SearchesInto bs k allowance lent r w.1.1.1.0 w.0 in
        ∥∥₁_elim (holds_records 𝓛 𝓜 𝓡 σ (sep 𝓤 (Im bs) G) s lent f.1.1.0) ∥∥₁_prop (λ there.
        ∥∥₁_elim (called 𝓛 𝓜 𝓡 strict search-into-contract.signature (𝓡.env search-into-name) (search-into-contract.spec 𝓛 𝓜.mem 𝓡.returns) (search-into-met.met 𝓤 𝓛 𝓜 𝓡 program.at_search_into) as'
        (λ i. (((i.0.0 ∷ [], (i.1.0.0 ∷ [], tt)), (full_share, (full_share, tt)), tt, (ref_to b i.0.1 bs, (k, (allowance, (ref_to (length σ) i.1.0.1 lent, tt)))), (vptr b 0 ∷ [], (clock-laws.lowered k ∷ [], (vint w32 allowance ∷ [], (lent_at σ (length lent) ∷ [], tt))))), tt)) (with_records σ lent) G
        (enters as') (lives as') (λ i. φ) (says as' φ)
        (beside 𝓛 𝓜 𝓡 (with_records σ lent) (Im bs) G (Records 𝓛 𝓜 𝓡 (length σ) lent) there)) ∥∥₁_prop (λ t.
        let es : List EntryRecord = t.4.1.1.1.0 in
        let Es : SProp 𝓤 = Records 𝓛 𝓜 𝓡 (length σ) es in
        ∥∥₁_map (loads_records 𝓛 𝓜 𝓡 es (length σ) t.2 G (first 𝓛 𝓜 𝓡 t.2 (Im t.4.0) G Es (emp 𝓤) t.8)) (λ l.
        ((t.1, t.2), t.5, (t.4.0, (t.3, es, one ((result-laws.lowers searched-row error-row searched-laws.the_row_laws error-laws.the_row_laws searched-laws.the_told error-laws.the_told).val_is t.3 (t.1 ∷ []) t.6), l, t.7), kept 𝓛 𝓜 𝓡 t.2 (Im t.4.0) G (sep 𝓤 Es (emp 𝓤)) t.8)))))
