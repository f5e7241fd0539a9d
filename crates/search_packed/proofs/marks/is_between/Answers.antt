use Rattle.std.proofs.Common.{◌≡◌, ℕ, ◌+◌, ◌-◌, ◌%◌, ◌^◌, ◌<◌, ◌≤◌, Bool, true, false, ◌&&◌, leb, sym, refl, ap, ◌∙◌, ap₂, arith, rules, le-leb, leb-false, leb-true}
use borrow.Author.Tests.{lt-leb}
use Rattle.laws.specs.Words.{within}
use Rattle.search_packed.proofs.marks.is_between.Goals as goal

-- x lies past the lower end by r, which wraps
between : (low high x r : ℕ) → low ≤ high → high < 2 ^ 32 → x < 2 ^ 32 → r < 2 ^ 32 → (r + low) % 2 ^ 32 ≡ x → leb r (high - low) ≡ within low high x
between low high x r h k l m e = go (leb low x) refl (leb x high) refl
  where
    go : (b : Bool) → leb low x ≡ b → (d : Bool) → leb x high ≡ d → leb r (high - low) ≡ (leb low x && leb x high)
    go true p true q = le-leb r (high - low) (omega (arith, leb-true low x p, leb-true x high q)) ∙ sym (ap₂ (λ u v. u && v) p q)
    go true p false q = lt-leb r (high - low) (omega (arith, leb-true low x p, leb-false x high q)) ∙ sym (ap₂ (λ u v. u && v) p q)
    go false p d q = lt-leb r (high - low) (omega (arith, leb-false low x p)) ∙ sym (ap (λ u. u && leb x high) p)

pub returns : goal.returns
returns c =
    let a = c.args in
    between a.low a.high a.x _ c.requires (search rules) (search rules) (search rules) (search rules)
