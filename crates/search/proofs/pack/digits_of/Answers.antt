use mathlib.Core.Path.{refl}
use Rattle.meter_identity.specs.Identity.{digits_of_value}
use Rattle.search.proofs.pack.digits_of.Goals as goal

pub returns : goal.returns
unfolding digits_of_value
returns c = refl
