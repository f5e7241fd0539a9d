-- `list_write::written::Written::push_record` meets its contract.
use mathlib.Core.Path.{◌≡◌, refl, ap, ◌∙◌}
use mathlib.Core.List.{List, ◌++◌}
use Prim.Native.Nat.{ℕ, min}
use native.Mathlib.Omega.{arith}
use borrow.Author.Rules.{rules}
use lib.ListN.{length, take, length-take}
use Rattle.std.proofs.lemmas.List.{take_min}
use Rattle.list_write.specs.ProgramRecord.{counted, room, none}
use Rattle.list_write.specs.View.{held}
use Rattle.list_write.proofs.written.Written.push_record.Goals as goal

-- the rest that is looked at
text : (xs : List ℕ) {n : ℕ} → n ≡ min 45 (length xs) → take n xs ≡ take 45 xs
text xs e = ap (λ (k : ℕ). take k xs) e ∙ take_min 45 xs

pub returns-then-text-self : goal.returns-then-text-self
returns-then-text-self g c =
    let s = text c.args.rest.now c.min.ensures in
    let w = c.args.self.now in
    let whole : length w.bytes ≡ g.row.N = search rules in
    let long = length-take w.len w.bytes in
    room (omega (arith, ap length s, length-take 45 c.args.rest.now, length-take c.min.result c.args.rest.now, whole, long, w.fits, c.if-text-self.true)) (c.push_text.ensures ∙ ap (λ (x : List ℕ). held w ++ counted x) s)

pub returns-else-text-self : goal.returns-else-text-self
returns-else-text-self g c =
    let s = text c.args.rest.now c.min.ensures in
    let w = c.args.self.now in
    let whole : length w.bytes ≡ g.row.N = search rules in
    let long = length-take w.len w.bytes in
    none (omega (arith, ap length s, length-take 45 c.args.rest.now, length-take c.min.result c.args.rest.now, whole, long, w.fits, c.if-text-self.false)) refl
