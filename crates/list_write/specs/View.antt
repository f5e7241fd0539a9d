-- The program's bytes in the terms of the definitions.
use Rattle.std.specs.Prelude.{List, ℕ, take}
use Rattle.list_write.specs.declared.written.Written.{Written}

-- the bytes that are written: the first `len` of the array
abbrev pub held : {n : ℕ} → Written n → List ℕ
held w = take w.len w.bytes
