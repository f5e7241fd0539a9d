-- The telegram writer: 01's number (0, 11 or 12), how many bytes were written, and the lent bytes afterwards.
use Rattle.std.specs.Prelude.{ℕ, List, ◌++◌, length, drop, nat_lt, if◌then◌else◌}
use Rattle.laws.specs.Refusal.{not_refused, refused_data, refused_room}
use Rattle.frame.specs.Frame.{Telegram, encode, data_of}

pub record WriteOutcome : Type 0 where
  pub number : ℕ
  pub count : ℕ
  pub lent : List ℕ

-- 11: data over 252; 12: lent bytes too few; a refusal writes nothing, and lent bytes past the telegram stay
unfoldable pub write : Telegram → List ℕ → WriteOutcome
write t lent =
    if nat_lt 252 (length (data_of t)) then record { number = refused_data; count = 0; lent = lent } else
    if nat_lt (length lent) (length (encode t)) then record { number = refused_room; count = 0; lent = lent } else
    record { number = not_refused; count = length (encode t); lent = encode t ++ drop (length (encode t)) lent }
