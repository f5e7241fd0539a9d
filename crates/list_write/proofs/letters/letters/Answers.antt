-- `list_write::letters::letters` meets its contract.
use mathlib.Core.Path.{sym, ap, ◌∙◌}
use mathlib.Core.Bool.{Bool, ◌&&◌}
use native.Mathlib.Omega.{arith}
use lib.Dec.{eqb}
use Rattle.meter.specs.declared.Model.TheVariants.{Fixed}
use Rattle.list_write.proofs.KeyLaws.{same_model_lem}
use Rattle.list_write.proofs.LetterLaws.{letters_coded, letters_none, letters_zero}
use Rattle.list_write.proofs.letters.letters.Goals as goal
use Rattle.list_write.proofs.letters.letters.Goals.{else-code-eq0-via-then-code-eq0+else-eq, else-code-eq0-via-else-code-eq0}

pub returns-then-eq : goal.returns-then-eq
returns-then-eq c =
    let m = c.args.medium in
    (letters_none _ _ _ c.if-code-eq0.true (ap (λ (b : Bool). eqb 0x04 m.code && b) (sym (same_model_lem Fixed m.model)) ∙ sym c.eq.ensures ∙ c.if-eq.true), omega arith)

pub returns-else-code-eq0 : goal.returns-else-code-eq0
returns-else-code-eq0 c =
    let m = c.args.medium in
    elim c.else-code-eq0.branch [
      | else-code-eq0-via-then-code-eq0+else-eq w ↦ (letters_zero _ _ _ (ap (λ (b : Bool). eqb 0x04 m.code && b) (sym (same_model_lem Fixed m.model)) ∙ sym w.eq.ensures ∙ w.if-eq.false), omega arith)
      | else-code-eq0-via-else-code-eq0 w ↦ (letters_coded _ _ _ w.if-code-eq0.false, omega arith)
    ]
