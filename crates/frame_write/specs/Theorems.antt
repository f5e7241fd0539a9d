-- What holds of telegrams that the writer writes, whatever the bytes.
use Rattle.std.specs.Prelude.{◌≡◌, ℕ, ◌≤◌, List, ◌++◌, length, take, drop}
use Rattle.laws.specs.Words.{Bytes}
use Rattle.laws.specs.Refusal.{not_refused}
use Rattle.frame.specs.Frame.{Telegram, complete, parse}
use Rattle.frame_write.specs.Writer.{write}

-- A complete telegram is written back to the same bytes that it was read from: the writer refuses no telegram that
-- was read from bytes.
abbrev pub WrittenBackByWriter : Type 0
WrittenBackByWriter =
    (bs lent : List ℕ) (t : Telegram) (n : ℕ) → Bytes bs → parse bs ≡ complete t n → n ≤ length lent
    → write t lent ≡ record { number = not_refused; count = n; lent = take n bs ++ drop n lent }

-- What the writer leaves in the lent bytes is parsed to the telegram that was written, and uses exactly its bytes.
abbrev pub ParsedFromWriter : Type 0
ParsedFromWriter = (t : Telegram) (lent : List ℕ) → (write t lent).number ≡ not_refused → parse (write t lent).lent ≡ complete t (write t lent).count
