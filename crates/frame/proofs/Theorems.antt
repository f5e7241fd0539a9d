-- The proofs of specs/Theorems.antt.
use Rattle.std.proofs.Common.{◌≡◌, ℕ, ◌⊎◌, sym, refl, ◌∙◌, inl, inr, arith}
use Rattle.frame.specs.Frame.{Parsed, complete, incomplete, invalid, parse}
use Rattle.frame.specs.Theorems.{WrittenBack, ParsedToItself, Complete, Incomplete, Invalid, OneOfThree, NoTwo, KeepsComplete, KeepsInvalid, DueIsLeast}
use Rattle.frame.proofs.RoundTrip.{parse-encode, parse_back}
use Rattle.frame.proofs.Waiting.{never, never'}
use Rattle.frame.proofs.More.{parse_more}
use Rattle.frame.proofs.Due.{kind, fewer, enough}

pub written_back : WrittenBack
written_back bs t n e = sym (parse_back bs t n e).0

pub parsed_to_itself : ParsedToItself
parsed_to_itself = parse-encode

pub one_of_three : OneOfThree
one_of_three bs = go (parse bs) refl
  where
    go : (p : Parsed) → parse bs ≡ p → Complete bs ⊎ (Incomplete bs ⊎ Invalid bs)
    go (complete t n) e = inl (t, (n, e))
    go (incomplete n) e = inr (inl (n, e))
    go (invalid w) e = inr (inr (w, e))

pub no_two : NoTwo
no_two bs = (
  λ a b. never a.0 a.1.0 (sym a.1.1 ∙ b.1),
  λ a b. let p = a.1.1 in let q = b.1 in let z : ◌≡◌ {A = ℕ} 0 1 = cc in omega arith,
  λ a b. never' b.0 (sym b.1 ∙ a.1),
)

pub keeps_complete : KeepsComplete
keeps_complete bs more t n e = parse_more bs more (λ f. never t n (sym e ∙ f.1)) ∙ e

pub keeps_invalid : KeepsInvalid
keeps_invalid bs more w e = parse_more bs more (λ f. never' w (sym e ∙ f.1)) ∙ e

pub due_is_least : DueIsLeast
due_is_least bs n e = let k = kind bs n e in (fewer bs n k, enough bs n k)
