-- What the program's functions do that put a reply's data together.
use Rattle.std.specs.Prelude.{◌≡◌, List, ◌++◌, ℕ}

-- behind the bytes `before` stand bs, which makes them `after`
pub record Puts (before bs after : List ℕ) : Type 0 where
  pub is : after ≡ before ++ bs
