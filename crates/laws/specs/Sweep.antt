-- What a loop over an array comes to: its first elements replaced.
use Rattle.std.specs.Prelude.{List, ◌++◌, map, ℕ, take, drop}

module _ {A : Type 0} where
  -- f over the first n elements, the others as they were
  abbrev pub swept : (A → A) → ℕ → List A → List A
  swept f n xs = map f (take n xs) ++ drop n xs
