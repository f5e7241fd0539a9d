-- `meter_identity::manufacturer_code` meets its contract.
use native.Mathlib.Omega.{arith}
use Rattle.meter_identity.proofs.IdentityLaws.{code-none, code_one, code_two, code_three}
use Rattle.meter_identity.proofs.manufacturer_code.Goals as goal

pub returns-in-empty : goal.returns-in-empty
returns-in-empty c = code-none c.args.name.now (omega (arith, c.in-empty.len_below))

pub returns-in-len1 : goal.returns-in-len1
returns-in-len1 c = code_one c.args.name.now c.letter.ensures (omega (arith, c.in-len1.len_at_least, c.in-len1.len_below))

pub returns-in-len2 : goal.returns-in-len2
returns-in-len2 c =
    code_two c.args.name.now c.letter-in-len2.ensures c.letter-in-len2-2.ensures (omega (arith, c.in-len2.len_at_least, c.in-len2.len_below))

pub returns-in-len3-up : goal.returns-in-len3-up
returns-in-len3-up c =
    code_three c.args.name.now c.letter-in-len3-up.ensures c.letter-in-len3-up-2.ensures c.letter-in-len3-up-3.ensures c.in-len3-up.len_at_least
