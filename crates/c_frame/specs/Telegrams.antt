-- Telegrams as numbers and bytes.
use Rattle.std.specs.Prelude.{◌≡◌, List, [], ◌∷◌, ◌++◌, ℕ, ◌+◌, ◌*◌, eqb, length, if◌then◌else◌}
use Rattle.numbers.specs.Values.{little}
use Rattle.frame.specs.Frame.{Telegram, ack, short, long, Parsed, complete, incomplete, invalid, Why, checksum, stop, header, bad_length, start, data_of}
use Rattle.frame_write.specs.Writer.{WriteOutcome}

-- why bytes are no telegram
abbrev pub why_number_value : Why → ℕ
why_number_value checksum = 2
why_number_value stop = 3
why_number_value header = 4
why_number_value bad_length = 5
why_number_value start = 6

-- 0 complete, 1 + 256 * due incomplete, 2 to 6 invalid
abbrev pub parsed_number : Parsed → ℕ
parsed_number (complete t used) = 0
parsed_number (incomplete n) = 1 + 256 * n
parsed_number (invalid why) = why_number_value why

-- kind (0 ACK, 1 short, 2 long), C, A, CI; 0 where there is none
abbrev pub head_of : Telegram → List ℕ
head_of ack = 0 ∷ 0 ∷ 0 ∷ 0 ∷ []
head_of (short c a) = 1 ∷ c ∷ a ∷ 0 ∷ []
head_of (long c a ci d) = 2 ∷ c ∷ a ∷ ci ∷ []

-- the 16 bytes of a telegram: kind, C, A, CI, how many data bytes and how many bytes used (four bytes each, low byte
-- first), four bytes 0
abbrev pub described : Telegram → ℕ → List ℕ
described t used = head_of t ++ little 4 (length (data_of t)) ++ little 4 used ++ 0 ∷ 0 ∷ 0 ∷ 0 ∷ []

-- the 16 bytes lent, afterwards; they stay where there is no complete telegram
abbrev pub described_in : List ℕ → Parsed → List ℕ
described_in out (complete t used) = described t used
described_in out (incomplete n) = out
described_in out (invalid why) = out

-- what parsing answers, with the lent bytes afterwards
pub record Parses (found : Parsed) (answer : ℕ) (before after : List ℕ) : Type 0 where
  pub answers : answer ≡ parsed_number found
  pub lent : after ≡ described_in before found

-- a telegram by its kind: 0 ACK, 1 short, any other long
unfoldable pub telegram_by : ℕ → ℕ → ℕ → ℕ → List ℕ → Telegram
telegram_by kind c a ci d =
    if eqb kind 0 then ack else
    if eqb kind 1 then short c a else
    long c a ci d

-- the answer is number * 65536 + bytes written, and the lent bytes afterwards
pub record Writes (want : WriteOutcome) (answer : ℕ) (after : List ℕ) : Type 0 where
  pub answers : answer ≡ want.number * 65536 + want.count
  pub lent : after ≡ want.lent
