-- One change of an image after the other, and what a call answers that makes them.
use mathlib.Core.Path.{◌≡◌, refl, sym, ap, subst, ◌∙◌}
use mathlib.Core.List.{List}
use Prim.Native.Nat.{ℕ}
use native.Mathlib.Omega.{arith}
use Rattle.segment.specs.Plain.{Plain}
use Rattle.segment.specs.Calls.{Done, accepted, refused}
use Rattle.segment_image.specs.Image.{decode_image, encode_image, Exact}
use Rattle.segment_image.specs.Answers.{done_by, DoneImage}
use Rattle.segment_places.specs.ProgramBecomes.{Becomes}

pub becomes_same : {l : List ℕ} → Becomes l (decode_image l) l
becomes_same = record { long = refl; means = refl; exact = λ e. e }

pub becomes_as : {a b : List ℕ} {s t : Plain} → s ≡ t → Becomes a s b → Becomes a t b
becomes_as {a} {b} e r = subst (λ x. Becomes a x b) e r

pub becomes_then : {a b c : List ℕ} {s t : Plain} → Becomes a s b → Becomes b t c → Becomes a t c
becomes_then p q =
    record {
      long = q.long ∙ p.long;
      means = q.means;
      exact = λ e. q.exact (p.exact e ∙ ap encode_image (sym p.means));
    }

-- the one image of a segment stays one
pub becomes_exact : {a b : List ℕ} {s : Plain} → Becomes a s b → Exact a → Exact b
becomes_exact p e = p.exact e ∙ ap encode_image (sym p.means)

-- ---- what a call answers

pub done_as : {d e : Done} {old new : List ℕ} {n : ℕ} → d ≡ e → DoneImage d n old new → DoneImage e n old new
done_as {old = old} {new = new} {n = n} q a = subst (λ x. DoneImage x n old new) q a

-- refused before anything was done
pub done_none : {d : Done} {old : List ℕ} (n : ℕ) → refused n (decode_image old) ≡ d → DoneImage d n old old
unfolding done_by
done_none n e = record { answer = e; exact = λ x. x; kept = λ x. refl }

-- done
pub done_becomes : {s : Plain} {old new : List ℕ} {d : Done} → accepted s ≡ d → Becomes old s new → DoneImage d 0 old new
unfolding done_by
done_becomes e b = record { answer = ap accepted b.means ∙ e; exact = becomes_exact b; kept = λ x. absurd (omega arith) }
