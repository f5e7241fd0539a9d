-- What the program's function comes to that counts a reply's bytes.
use Rattle.std.specs.Prelude.{◌≡◌, ℕ, ◌≤◌, length, take}
use Rattle.meter_reply.specs.declared.Reply.{Reply}
use Rattle.meter_reply.specs.View.{said}

-- n is how many bytes the reply r has: within its array, and its first n are the reply
pub record SaidLen (r : Reply) (n : ℕ) : Type 0 where
  pub is : n ≡ length (said r)
  pub room : n ≤ 96
  pub within : n ≤ length r.bytes
  pub bytes : take n r.bytes ≡ said r
