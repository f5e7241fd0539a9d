-- The program's own first step: the opening of a list in an image.
use Rattle.std.specs.Prelude.{◌≡◌, false, List, ℕ, Result}
use Rattle.list_open.specs.Opening.{number_in, index_in, open_list_value}
use Rattle.list_check.specs.declared.refusal.Refusal.{Refusal}
use Rattle.list_check.specs.Refusals.{refusal_number_value, refusal_index_value}
use Rattle.segment_image.specs.Image.{decode_image}
use Rattle.search.specs.Site.{site}

-- number and index are the definition's, and the image means the site
pub record OpensSite (list : List ℕ) (r : Result (Unit {0}) Refusal) (image : List ℕ) : Type 0 where
  pub number : refusal_number_value r ≡ number_in (open_list_value list 2400 false)
  pub index : refusal_index_value r ≡ index_in (open_list_value list 2400 false)
  pub segment : decode_image image ≡ site list
