-- `numbers::reciprocal::product` meets its contract.
use native.Mathlib.Omega.{arith}
use mathlib.Core.Path.{refl}
use Rattle.numbers.proofs.ProductLaws.{product_bound}
use Rattle.numbers.proofs.reciprocal.product.Goals as goal

pub overflow_mul-result : goal.overflow_mul-result
overflow_mul-result c = omega (arith, product_bound c.args.a c.args.b (omega arith) (omega arith))

pub returns : goal.returns
returns c = (refl, product_bound c.args.a c.args.b (omega arith) (omega arith))
