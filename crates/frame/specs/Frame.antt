-- Telegrams (EN 13757-2; 01, "A probe goes out"): what they are, their bytes, and how bytes are read as one.
use Rattle.std.specs.Prelude.{ℕ, ◌+◌, ◌-◌, ◌%◌, not, ◌&&◌, List, [], ◌∷◌, ◌++◌, length, take, drop, ◌==◌, nat_lt, if◌then◌else◌}
use Rattle.laws.specs.Words.{at}
use Rattle.frame.specs.Protocol.{ack_byte, start_short, start_long, stop_byte}

-- ACK; short, with C and A; long, with C, A, CI and data
pub data Telegram : Type 0 where
  ack : Telegram
  short : ℕ → ℕ → Telegram
  long : ℕ → ℕ → ℕ → List ℕ → Telegram

-- ACK and short have no data
abbrev pub data_of : Telegram → List ℕ
data_of ack = []
data_of (short c a) = []
data_of (long c a ci d) = d

-- ---- the bytes of a telegram

abbrev pub added : List ℕ → ℕ
added [] = 0
added (b ∷ bs) = b + added bs

-- the sum, modulo 256
unfoldable pub sum : List ℕ → ℕ
sum bs = added bs % 256

-- ACK is E5. Short: 10 C A sum 16. Long: 68 L L 68 C A CI data sum 16, L = data length + 3; the sum is over C, A, CI,
-- data
unfoldable pub encode : Telegram → List ℕ
encode ack = ack_byte ∷ []
encode (short c a) = start_short ∷ c ∷ a ∷ sum (c ∷ a ∷ []) ∷ stop_byte ∷ []
encode (long c a ci d) = start_long ∷ (length d + 3) ∷ (length d + 3) ∷ start_long ∷ c ∷ a ∷ ci ∷ (d ++ sum (c ∷ a ∷ ci ∷ d) ∷ stop_byte ∷ [])

-- ---- parse, in its order

-- the Rust's reasons; bad_length is its "length", a length byte below 3
pub data Why : Type 0 where
  checksum stop header bad_length start : Why

-- a telegram with the number of bytes used; more bytes are needed, and how many are due; or why it is none.
-- Req 01: "An incomplete telegram should carry the least number of further bytes after which it could be other than
-- incomplete": specs/Theorems, `DueIsLeast`
pub data Parsed : Type 0 where
  complete : Telegram → ℕ → Parsed
  incomplete : ℕ → Parsed
  invalid : Why → Parsed

-- short: under 5 bytes incomplete ("4 for a lone 10"); checksum, stop (16)
unfoldable pub parse_short_value : List ℕ → Parsed
parse_short_value bs =
    if nat_lt (length bs) 5 then incomplete (5 - length bs) else
    if not (at bs 3 == sum (at bs 1 ∷ at bs 2 ∷ [])) then invalid checksum else
    if not (at bs 4 == stop_byte) then invalid stop else
    complete (short (at bs 1) (at bs 2)) 5

-- long, with all of its bytes there: checksum, stop
unfoldable pub parse_body : ℕ → List ℕ → Parsed
parse_body l bs =
    if not (at bs (4 + l) == sum (take l (drop 4 bs))) then invalid checksum else
    if not (at bs (5 + l) == stop_byte) then invalid stop else
    complete (long (at bs 4) (at bs 5) (at bs 6) (take (l - 3) (drop 7 bs))) (l + 6)

-- long: under 4 bytes incomplete ("3 for a lone 68"); header (the length twice, then 68), length below 3, incomplete
-- ("the rest of L + 6 once a sound header is there"), and the rest
unfoldable pub parse_long_value : List ℕ → Parsed
parse_long_value bs =
    if nat_lt (length bs) 4 then incomplete (4 - length bs) else
    if not (at bs 2 == at bs 1 && at bs 3 == start_long) then invalid header else
    if nat_lt (at bs 1) 3 then invalid bad_length else
    if nat_lt (length bs) (at bs 1 + 6) then incomplete (at bs 1 + 6 - length bs) else
    parse_body (at bs 1) bs

-- by the first byte, E5, 10 or 68; any other first byte is invalid; "1 for nothing"
unfoldable pub parse : List ℕ → Parsed
parse [] = incomplete 1
parse (b ∷ bs) =
    if b == ack_byte then complete ack 1 else
    if b == start_short then parse_short_value (b ∷ bs) else
    if b == start_long then parse_long_value (b ∷ bs) else
    invalid start

-- the number that an incomplete telegram carries; 0 of any other
abbrev pub due : Parsed → ℕ
due (complete t used) = 0
due (incomplete n) = n
due (invalid why) = 0
