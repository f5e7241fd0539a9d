-- `numbers::reciprocal::upper` meets its contract.
use mathlib.Core.Path.{refl}
use Rattle.numbers.proofs.ProductLaws.{product_upper}
use Rattle.numbers.proofs.reciprocal.upper.Goals as goal

pub returns : goal.returns
returns c = product_upper c.args.x c.args.m _ _ _ _ _ c.product.ensures.0 c.product-2.ensures.0 c.product-3.ensures.0 c.product-4.ensures.0 refl
