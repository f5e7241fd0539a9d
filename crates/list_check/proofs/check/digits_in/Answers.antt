-- `list_check::check::digits_in` meets its contract.
use native.Mathlib.Omega.{arith}
use mathlib.Core.Path.{refl}
use Rattle.list_check.proofs.CheckLaws.{id_length, id_digit, digits_none, digits_room, digits_more, digits_all}
use Rattle.list_check.proofs.check.digits_in.Goals as goal

pub loop-c-init : goal.loop-c-init
loop-c-init c = digits_none _ _

pub overflow_mul-n : goal.overflow_mul-n
overflow_mul-n c = omega (arith, (digits_room c.loop-c.invariant c.requires.0 0 (omega (arith, id_length _ c.requires.1)) (omega arith)).product)

pub overflow_sub-c : goal.overflow_sub-c
overflow_sub-c c = (id_digit _ c.loop-c.c-index c.requires.1 (omega (arith, id_length _ c.requires.1))).0

pub overflow_add-n : goal.overflow_add-n
overflow_add-n c =
    let l = id_length _ c.requires.1 in
    let d = id_digit _ c.loop-c.c-index c.requires.1 (omega arith) in
    omega (arith, (digits_room c.loop-c.invariant c.requires.0 c.from.result (omega arith) (omega (arith, c.from.ensures))).sum)

pub loop-c-preserved : goal.loop-c-preserved
loop-c-preserved c =
    let l = id_length _ c.requires.1 in
    let d = id_digit _ c.loop-c.c-index c.requires.1 (omega arith) in
    digits_more c.loop-c.invariant c.requires.0 (omega arith) l (omega (arith, c.from.ensures)) c.from.ensures refl

pub returns : goal.returns
returns c = digits_all c.loop-c.invariant c.requires.0 (id_length _ c.requires.1) (omega (arith, id_length _ c.requires.1))
