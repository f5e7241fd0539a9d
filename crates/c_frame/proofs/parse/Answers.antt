-- `c_frame::parse` meets its contract.
use mathlib.Core.Path.{sym, ap, ◌∙◌}
use mathlib.Core.List.{List, [], ◌∷◌, ◌++◌}
use Prim.Native.Nat.{ℕ}
use lib.ListN.{length}
use Rattle.numbers.specs.Values.{little}
use Rattle.frame.specs.View.{telegram_of, parsed_of}
use Rattle.c_frame.specs.Telegrams.{head_of, parsed_number, described_in}
use Rattle.c_frame.proofs.parse.Goals as goal

pub returns-in-Complete : goal.returns-in-Complete
returns-in-Complete c =
    let a = c.args in
    let z : List ℕ = 0 ∷ 0 ∷ 0 ∷ 0 ∷ [] in
    let m = c.in-Complete in
    let e = ap parsed_of (sym m.is) ∙ c.parse.ensures in
    let t = telegram_of m.frame in
    record {
      answers = ap parsed_number e;
      lent =
          c.description.ensures
          ∙ ap (λ (x : List ℕ). x ++ little 4 (length c.user_data.result.now) ++ little 4 m.used ++ z) c.head_of.ensures
          ∙ ap (λ (x : List ℕ). head_of t ++ little 4 (length x) ++ little 4 m.used ++ z) c.user_data.ensures
          ∙ ap (described_in a.out.now) e;
    }

pub returns-in-Incomplete : goal.returns-in-Incomplete
returns-in-Incomplete c =
    let a = c.args in
    let e = ap parsed_of (sym c.in-Incomplete.is) ∙ c.parse.ensures in
    record { answers = rw c.from.ensures (ap parsed_number e); lent = ap (described_in a.out.now) e }

pub returns-in-Invalid : goal.returns-in-Invalid
returns-in-Invalid c =
    let a = c.args in
    let e = ap parsed_of (sym c.in-Invalid.is) ∙ c.parse.ensures in
    record { answers = c.why_number.ensures ∙ ap parsed_number e; lent = ap (described_in a.out.now) e }
