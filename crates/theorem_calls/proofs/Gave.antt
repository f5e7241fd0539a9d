-- What the contract of a call says, of the bytes of the image before and after it; and what follows of 01's answer
-- and segment.
use Rattle.std.specs.Prelude.{if◌then◌else◌, Result, Ok, Err}
use mathlib.Core.Path.{◌≡◌, refl, sym, ap, subst, ◌∙◌}
use mathlib.Core.Bool.{Bool, true, false}
use mathlib.Core.List.{List}
use Prim.Native.Nat.{ℕ, ◌/◌, ◌%◌, ◌<◌}
use native.Mathlib.Omega.{arith}
use lib.Dec.{eqb}
use lib.Ieee.{Float}
use lib.ListN.{length}
use borrow.Author.Tests.{eqb-true, eqb-false}
use mir.Syntax.{w32, w64}
use mir.Val.{Val, vint, vunit}
use prog.Memory.{Memory}
use Rattle.time_clock.specs.declared.Clock.{Clock}
use Rattle.segment.specs.Plain.{Plain}
use Rattle.segment.specs.Calls as plain
use Rattle.segment.specs.Calls.{receive, clear, change_baud}
use Rattle.segment_send.specs.Send.{send}
use Rattle.segment_send.specs.View.{SentImage}
use Rattle.segment_image.specs.Image.{decode_image, encode_image, Exact}
use Rattle.segment_image.specs.Answers.{done_by, DoneImage, OpenedImage, received_by, ReceivedImage, LeftImage}
use Rattle.search.specs.declared.EntryRecord.{EntryRecord}
use Rattle.search.specs.declared.Searched.{Searched}
use Rattle.search.specs.declared.SearchError.{SearchError}
use Rattle.search.specs.SearchCall as definitions
use Rattle.search.specs.View.{searched_of, SearchesInto}
use Rattle.c_search.specs.Searches.{search_by, summary_of_value, Searches}
use Rattle.theorem_calls.specs.Call.{Call, opening, sending, receiving, clearing, changing, searching, searching_into, after_call}
use Rattle.theorem_calls.specs.Answer.{opened, sent, received, changed, searched, searched_into, summary_after, answer_to}
use Rattle.theorem_calls.specs.Made.{with_bytes}
use Rattle.theorem_calls.specs.Read.{BytesIn, RecordsIn, result-value, into_answer, Reads}

-- a call on the image bs, in the memory σ, returned r and left the memory σ₁ and the image cs
abbrev pub Gave : Call → List ℕ → Memory → Val → Memory → List ℕ → Type 0
Gave (opening list bus practice origin) bs σ r σ₁ cs = (n : ℕ) × (r ≡ vint w32 n) × BytesIn σ₁ (length σ) list × OpenedImage list bus practice origin (n % 256) (n / 256) bs cs
Gave (sending piece k) bs σ r σ₁ cs = (n : ℕ) × (r ≡ vint w32 n) × BytesIn σ₁ (length σ) piece × SentImage (send piece k (decode_image bs)) (n / 65536) (n % 65536) bs cs
Gave (receiving xs) bs σ r σ₁ cs = (n : ℕ) × (ys : List ℕ) × (r ≡ vint w64 n) × BytesIn σ₁ (length σ) ys × ReceivedImage (receive xs (decode_image bs)) n ys bs cs
Gave clearing bs σ r σ₁ cs = (r ≡ vunit) × LeftImage (clear (decode_image bs)) bs cs
Gave (changing baud) bs σ r σ₁ cs = (n : ℕ) × (r ≡ vint w32 n) × DoneImage (change_baud baud (decode_image bs)) n bs cs
Gave (searching k allowance xs su) bs σ r σ₁ cs =
    (n : ℕ) × (ys : List ℕ) × (zs : List ℕ) × (r ≡ vint w32 n) × BytesIn σ₁ (length σ) ys × BytesIn σ₁ (length (with_bytes σ xs)) zs × Searches (search_by k allowance xs (decode_image bs)) n bs cs xs ys su zs
Gave (searching_into k allowance lent) bs σ r σ₁ cs = (x : Result Searched SearchError) × (es : List EntryRecord) × (r ≡ result-value x) × RecordsIn σ₁ (length σ) es × SearchesInto bs k allowance lent x es cs

-- ---- the segment

-- a search's answer has the segment that it leaves
segment_left : (x : Result Searched SearchError) (es : List EntryRecord) (s : Plain) → s ≡ (searched_of x es s).segment
unfolding searched_of
segment_left (Ok x) es s = refl
segment_left (Err e) es s = refl

-- the image means the plain segment after the call
pub means : (c : Call) (bs : List ℕ) (σ : Memory) (r : Val) (σ₁ : Memory) (cs : List ℕ) → Gave c bs σ r σ₁ cs → decode_image cs ≡ after_call c (decode_image bs)
unfolding after_call done_by received_by searched_of
means (opening list bus practice origin) bs σ r σ₁ cs g = g.3.segment
means (sending piece k) bs σ r σ₁ cs g = ap (λ (d : plain.Done). d.segment) g.3.done.answer
means (receiving xs) bs σ r σ₁ cs g = ap (λ (d : plain.Received). d.segment) g.4.answer
means clearing bs σ r σ₁ cs g = g.1.segment
means (changing baud) bs σ r σ₁ cs g = ap (λ (d : plain.Done). d.segment) g.2.answer
means (searching k allowance xs su) bs σ r σ₁ cs g = g.6.segment
means (searching_into k allowance lent) bs σ r σ₁ cs g = segment_left g.0 g.1 (decode_image cs) ∙ ap (λ (d : definitions.Searched). d.segment) g.4.gives

-- an opening that is accepted writes the one image of its segment, and one that is refused leaves every byte
opened_exact : (n : ℕ) (bs cs : List ℕ) (s : Plain) → decode_image cs ≡ s → (n ≡ 0 → cs ≡ encode_image s) → (0 < n → cs ≡ bs) → Exact bs → Exact cs
opened_exact n bs cs s e z k x = go (eqb n 0) refl
  where
    go : (b : Bool) → eqb n 0 ≡ b → Exact cs
    go true h = z (eqb-true n 0 h) ∙ ap encode_image (sym e)
    go false h = let f = eqb-false n 0 h in subst Exact (sym (k (omega (arith, f)))) x

-- it is the one image of that segment
pub exact : (c : Call) (bs : List ℕ) (σ : Memory) (r : Val) (σ₁ : Memory) (cs : List ℕ) → Gave c bs σ r σ₁ cs → Exact bs → Exact cs
exact (opening list bus practice origin) bs σ r σ₁ cs g x = opened_exact (g.0 % 256) bs cs _ g.3.segment g.3.bytes g.3.kept x
exact (sending piece k) bs σ r σ₁ cs g x = g.3.done.exact x
exact (receiving xs) bs σ r σ₁ cs g x = g.4.exact x
exact clearing bs σ r σ₁ cs g x = g.1.exact x
exact (changing baud) bs σ r σ₁ cs g x = g.2.exact x
exact (searching k allowance xs su) bs σ r σ₁ cs g x = g.6.exact x
exact (searching_into k allowance lent) bs σ r σ₁ cs g x = g.4.exact x

-- ---- the answer

-- the summary is written where the number is 0, and stays where it is not
summary_is : (w : definitions.Searched) (n : ℕ) (su zs : List ℕ) → n ≡ w.number → (n ≡ 0 → zs ≡ summary_of_value w.count w.probes w.spent) → (0 < n → zs ≡ su) → zs ≡ summary_after w su
summary_is w n su zs e told kept = go (eqb w.number 0) refl
  where
    go : (b : Bool) → eqb w.number 0 ≡ b → zs ≡ summary_after w su
    go true h = told (e ∙ eqb-true w.number 0 h) ∙ sym (ap (λ b. if b then summary_of_value w.count w.probes w.spent else su) h)
    go false h = let f = eqb-false w.number 0 h in kept (omega (arith, e, f)) ∙ sym (ap (λ b. if b then summary_of_value w.count w.probes w.spent else su) h)

-- a search's answer by its result
into_is : (x : Result Searched SearchError) (es : List EntryRecord) (s : Plain) → let d = searched_of x es s in searched_into d.number d.count d.probes d.spent d.lent ≡ into_answer x es
unfolding searched_of
into_is (Ok x) es s = refl
into_is (Err e) es s = refl

-- what was returned and written is 01's answer: of each call, and of any
abbrev Answered : Call → List ℕ → Memory → Val → Memory → Type 0
Answered c bs σ r σ₁ = Reads c σ r σ₁ (answer_to (decode_image bs) c)

module _ (bs : List ℕ) (σ : Memory) (r : Val) (σ₁ : Memory) (cs : List ℕ) where
  answers_open : (list : List ℕ) (bus : ℕ) (practice : Bool) (origin : Float) → Gave (opening list bus practice origin) bs σ r σ₁ cs → Answered (opening list bus practice origin) bs σ r σ₁
  answers_open list bus practice origin g = (g.0, g.1, g.2, λ j. opened (sym g.3.number_is j) (sym g.3.index_is j))

  answers-send : (piece : List ℕ) (k : Clock) → Gave (sending piece k) bs σ r σ₁ cs → Answered (sending piece k) bs σ r σ₁
  unfolding done_by
  answers-send piece k g =
      let e : g.0 / 65536 ≡ (send piece k (decode_image bs)).number = ap (λ (d : plain.Done). d.number) g.3.done.answer in
      (g.0, g.1, g.2, λ j. sent (sym e j) (sym g.3.due-is j))

  answers-receive : (lent : List ℕ) → Gave (receiving lent) bs σ r σ₁ cs → Answered (receiving lent) bs σ r σ₁
  unfolding received_by
  answers-receive lent g = (g.0, g.1, g.2, g.3, ap (λ (d : plain.Received). received d.count d.lent) (sym g.4.answer))

  answers-clear : Gave clearing bs σ r σ₁ cs → Answered clearing bs σ r σ₁
  answers-clear g = (g.0, refl)

  answers_baud : (baud : ℕ) → Gave (changing baud) bs σ r σ₁ cs → Answered (changing baud) bs σ r σ₁
  unfolding done_by
  answers_baud baud g = (g.0, g.1, ap (λ (d : plain.Done). changed d.number) (sym g.2.answer))

  answers_search : (k : Clock) (allowance : ℕ) (xs su : List ℕ) → Gave (searching k allowance xs su) bs σ r σ₁ cs → Answered (searching k allowance xs su) bs σ r σ₁
  answers_search k allowance xs su g =
      let w = search_by k allowance xs (decode_image bs) in
      let e = summary_is w g.0 su g.2 g.6.answer g.6.told g.6.summary_kept in
      (g.0, g.1, g.2, g.3, g.4, g.5, λ j. searched (sym g.6.answer j) (sym g.6.written j) (sym e j))

  answers_search_into : (k : Clock) (allowance : ℕ) (lent : List EntryRecord) → Gave (searching_into k allowance lent) bs σ r σ₁ cs → Answered (searching_into k allowance lent) bs σ r σ₁
  answers_search_into k allowance lent g =
      (g.0, g.1, g.2, g.3, ap (λ (d : definitions.Searched). searched_into d.number d.count d.probes d.spent d.lent) (sym g.4.gives) ∙ into_is g.0 g.1 (decode_image cs))

pub answered : (c : Call) (bs : List ℕ) (σ : Memory) (r : Val) (σ₁ : Memory) (cs : List ℕ) → Gave c bs σ r σ₁ cs → Answered c bs σ r σ₁
answered (opening list bus practice origin) bs σ r σ₁ cs g = answers_open bs σ r σ₁ cs list bus practice origin g
answered (sending piece k) bs σ r σ₁ cs g = answers-send bs σ r σ₁ cs piece k g
answered (receiving lent) bs σ r σ₁ cs g = answers-receive bs σ r σ₁ cs lent g
answered clearing bs σ r σ₁ cs g = answers-clear bs σ r σ₁ cs g
answered (changing baud) bs σ r σ₁ cs g = answers_baud bs σ r σ₁ cs baud g
answered (searching k allowance xs su) bs σ r σ₁ cs g = answers_search bs σ r σ₁ cs k allowance xs su g
answered (searching_into k allowance lent) bs σ r σ₁ cs g = answers_search_into bs σ r σ₁ cs k allowance lent g
