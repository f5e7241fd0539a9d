-- Send on an image, answer by answer.
use Rattle.std.specs.Prelude.{Result, Ok, Err, if◌then◌else◌}
use mathlib.Core.Path.{◌≡◌, sym, ap, subst, ◌∙◌}
use mathlib.Core.List.{List}
use Prim.Native.Nat.{ℕ, ◌<◌}
use native.Mathlib.Omega.{arith}
use borrow.Author.Tests.{lt-ltb, le-ltb, ne_eqb}
use lib.ListN.{length}
use Rattle.segment.specs.Plain.{Plain}
use Rattle.segment.specs.Calls.{Done, accepted, refused}
use Rattle.segment_image.specs.Image.{decode_image, Exact}
use Rattle.segment_image.specs.Answers.{done_by, DoneImage}
use Rattle.segment_places.specs.declared.queue.QueueFull.{QueueFull}
use Rattle.segment_places.proofs.Becoming.{becomes_exact, done_as, done_none}
use Rattle.segment_places.proofs.PlaceLaws.{queue_short}
use Rattle.frame.specs.Frame.{due, parse}
use Rattle.segment_send.specs.Send.{fits_queue, due_after}
use Rattle.segment_send.specs.View.{SentImage}
use Rattle.segment_send.specs.ProgramSend.{ComesOrStays}

module _ {s : Plain} {old new : List ℕ} where
  done-fits : ComesOrStays s old (Ok tt) new → DoneImage (fits_queue (decode_image old) s) 0 old new
  unfolding done_by
  done-fits c =
      let b = c.done in
      record {
        answer =
            ap accepted b.means
            ∙ sym (ap (λ x. if x then refused 15 (decode_image old) else accepted s) (le-ltb 4096 (length s.queue) (omega (arith, ap (λ p. length p.queue) b.means, queue_short new))));
        exact = becomes_exact b;
        kept = λ x. absurd (omega arith);
      }

  done_full : {why : QueueFull} → ComesOrStays s old (Err why) new → DoneImage (fits_queue (decode_image old) s) 15 old new
  unfolding done_by
  done_full c =
      let e = c.stays in
      record {
        answer = ap (λ x. refused 15 (decode_image x)) e ∙ sym (ap (λ x. if x then refused 15 (decode_image old) else accepted s) (lt-ltb 4096 (length s.queue) c.full));
        exact = subst Exact (sym e);
        kept = λ x. e;
      }

  -- with how many bytes are due of what waits
  pub sent_fits : ComesOrStays s old (Ok tt) new → {n : ℕ} → n ≡ due (parse (decode_image new).input) → SentImage (fits_queue (decode_image old) s) 0 n old new
  unfolding done_by
  sent_fits c e = let d = done-fits c in record { done = d; due-is = e ∙ ap due_after d.answer }

  pub sent_full : {why : QueueFull} → ComesOrStays s old (Err why) new → SentImage (fits_queue (decode_image old) s) 15 0 old new
  unfolding done_by
  sent_full c = let d = done_full c in record { done = d; due-is = ap due_after d.answer }

pub comes_as : {s t : Plain} {old new : List ℕ} {r : Result (Unit {0}) QueueFull} → s ≡ t → ComesOrStays s old r new → ComesOrStays t old r new
comes_as {old = old} {new = new} {r = r} q c = subst (λ x. ComesOrStays x old r new) q c

pub sent_as : {d e : Done} {old new : List ℕ} {n m : ℕ} → d ≡ e → SentImage d n m old new → SentImage e n m old new
sent_as q a = record { done = done_as q a.done; due-is = a.due-is ∙ ap due_after q }

-- refused before anything was done
pub sent_none : {d : Done} {old : List ℕ} (n : ℕ) → 0 < n → refused n (decode_image old) ≡ d → SentImage d n 0 old old
sent_none {d} {old} n h e =
    record {
      done = done_none n e;
      due-is = sym (ap (λ x. if x then due (parse (decode_image old).input) else 0) (ne_eqb n 0 (λ z. omega arith))) ∙ ap due_after e;
    }
