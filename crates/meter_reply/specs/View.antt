-- The program's bytes in the terms of the definitions.
use Rattle.std.specs.Prelude.{ℕ, List, take}
use Rattle.meter_reply.specs.declared.Reply.{Reply}

-- the bytes of a reply: the first `len` of the array
abbrev pub said : Reply → List ℕ
said r = take r.len r.bytes
