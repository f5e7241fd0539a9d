-- A text as the ASCII codes of its characters.
use Rattle.std.specs.Prelude.{List, [] as nothing, ◌∷◌ as ◌before◌, ℕ}
use Prim.Native.Char.{code}
use Prim.Native.String.{String, [], ◌∷◌}

abbrev pub ascii : String → List ℕ
ascii [] = nothing
ascii (c ∷ s) = code c before ascii s
