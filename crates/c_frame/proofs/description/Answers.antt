-- `c_frame::description` meets its contract.
use mathlib.Core.Path.{ap, ◌∙◌}
use mathlib.Core.List.{List, [], ◌∷◌, ◌++◌}
use Prim.Native.Nat.{ℕ}
use borrow.Author.Rules.{rules}
use Rattle.std.proofs.Common.{w64}
use Rattle.laws.proofs.Lists.{four_of}
use Rattle.numbers.specs.Values.{little}
use Rattle.numbers.proofs.LeBytes.{little_bytes}
use Rattle.c_frame.proofs.description.Goals as goal

pub returns : goal.returns
unfolding little
returns c =
    let a = c.args in
    rw (c.to_le_bytes.ensures ∙ little_bytes w64 a.count, c.to_le_bytes-2.ensures ∙ little_bytes w64 a.used)
    (ap (λ (x : List ℕ). x ++ little 4 a.count ++ little 4 a.used ++ 0 ∷ 0 ∷ 0 ∷ 0 ∷ []) (four_of a.head (search rules)))
