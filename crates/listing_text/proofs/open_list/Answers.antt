use mathlib.Core.Path.{sym, ap, subst, ◌∙◌}
use Prim.Native.Nat.{ℕ}
use native.Mathlib.Omega.{arith}
use lib.Ieee.{of_bits}
use Rattle.segment_image.specs.Image.{IsImage}
use lib.ListN.{take}
use lib.Seq.{length-take-le}
use Rattle.std.proofs.lemmas.List.{take_min}
use Rattle.listing_text.specs.Listing.{list_in}
use Rattle.listing_text.proofs.ListingLaws.{opens_site}
use Rattle.listing_text.proofs.open_list.Goals as goal

pub slice_bounds-read-end : goal.slice_bounds-read-end
slice_bounds-read-end c = sym (length-take-le _ _ (omega arith))

pub returns : goal.returns
unfolding list_in of_bits
returns c =
    let input = c.args.input.now in
    let n = c.min in
    let e = ap (λ (k : ℕ). take k input) n.ensures ∙ take_min 65536 input in
    opens_site e (subst (λ s. IsImage s c.write_image.new.image) c.new.ensures c.write_image.ensures) c.open.ensures
