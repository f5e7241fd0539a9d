use mathlib.Core.Path.{refl}
use lib.Ieee.{of_bits}
use Rattle.search.specs.Site.{october}
use Rattle.listing_text.proofs.clock.Goals as goal

pub returns : goal.returns
unfolding october of_bits
returns c = refl
