-- The program's bytes in the terms of the definitions.
use Rattle.std.specs.Prelude.{List, ℕ, take}
use Rattle.meter_data.specs.declared.data.Data.{Data}

-- the bytes of a reply's data: the first `len` of the array
abbrev pub held : Data → List ℕ
held d = take d.len d.bytes
