-- `segment_telegram::sweep::is_sought` meets its contract.
use mathlib.Core.Path.{◌≡◌, sym, ap, ◌∙◌}
use Prim.Native.Nat.{ℕ, suc, ◌+◌, ◌*◌, ◌-◌, ◌/◌, ◌%◌, ◌<◌}
use native.Mathlib.Omega.{arith}
use borrow.Author.Rules.{rules}
use lib.ListN.{take, drop}
use Rattle.std.proofs.Common.{w64}
use Rattle.laws.specs.Words.{at}
use Rattle.numbers.specs.Number.{number}
use Rattle.numbers.proofs.LeBytes.{number_at}
use Rattle.meter_identity.specs.Identity.{digits_of_value}
use Rattle.meter_concern.specs.ProgramConcern.{concerns}
use Rattle.segment_image.specs.MeterBytes.{flag_by, decode_meter}
use Rattle.segment_image.specs.Image.{block}
use Rattle.segment_places.proofs.HeadLaws.{at_block, number-block}
use Rattle.segment_telegram.proofs.sweep.is_sought.Goals as goal

pub returns : goal.returns
unfolding decode_meter number
returns c =
    let a = c.args in
    let l = a.image.now in
    let p = 4374 + 25 * a.i in
    let b = block p 25 l in
    let id = number 4 (p + 1) l in
    let s = flag_by (at l (p + 16)) in
    let n : p + 8 - p ≡ 8 = omega arith in
    let w = c.from_le_bytes.result in
    let word : w ≡ number 8 p l = c.from_le_bytes.ensures ∙ number_at w64 p l (c.copy_from_slice.ensures.after ∙ ap (λ k. take k (drop p l)) n) in
    let next : p + 1 ≡ suc p = omega arith in
    let byte : (k : ℕ) → at l k < 256 = search rules in
    let first : w % 256 ≡ at l p = omega (arith, word, byte p) in
    let rest : w / 256 % 4294967296 ≡ id = rw next (omega (arith, word, byte p, byte (suc p), byte (suc (suc p)), byte (suc (suc (suc p))), byte (suc (suc (suc (suc p)))))) in
    let e : p ≡ p + 0 = omega arith in
    λ t k.
    c.seeks.ensures.test _ k
    ∙ ap (λ x. concerns t x s (digits_of_value (w / 256 % 4294967296))) (first ∙ ap (at l) e ∙ sym (at_block p 25 l 0 (omega arith)))
    ∙ ap (λ x. concerns t (at b 0) s (digits_of_value x)) (rest ∙ sym (number-block p 25 l 4 1 (omega arith)))
    ∙ ap (λ x. concerns t (at b 0) (flag_by x) (digits_of_value (number 4 1 b))) (sym (at_block p 25 l 16 (omega arith)))
