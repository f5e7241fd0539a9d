-- The telegrams of a master that searches, and what it takes for an answer.
use Rattle.std.specs.Prelude.{ℕ, Bool, false, List, ◌==◌, bit_and, bit_or, if◌then◌else◌}
use Rattle.frame.specs.Protocol.{c_snd_ud, c_req_ud2, c_rsp_ud, fcb_bit, c_mask}
use Rattle.frame.specs.Frame.{Telegram, ack, short, long}

-- REQ_UD2: 5B; 7B, with the alternation bit FCB (20), where it is set
abbrev pub req_ud2 : ℕ → Bool → Telegram
req_ud2 a fcb = short (if fcb then bit_or c_req_ud2 fcb_bit else c_req_ud2) a

-- SND_UD (53)
abbrev pub snd_ud : ℕ → ℕ → List ℕ → Telegram
snd_ud a ci d = long c_snd_ud a ci d

-- RSP_UD: long, C masked with CF is 08
abbrev pub is_rsp_ud : Telegram → Bool
is_rsp_ud ack = false
is_rsp_ud (short c a) = false
is_rsp_ud (long c a ci d) = bit_and c c_mask == c_rsp_ud
