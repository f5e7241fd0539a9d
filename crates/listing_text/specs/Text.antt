-- 01, "The listing program": the text for a search's records, and for a refused list.
-- Texts are lists of ASCII codes.
use Rattle.std.specs.Prelude.{◌≡◌, List, [], ◌∷◌, ◌++◌, map, ℕ, zero, suc, ◌+◌, ◌*◌, ◌/◌, ◌%◌, eqb, ltb, length, take, drop, if◌then◌else◌}
use Rattle.laws.specs.Ascii.{ascii}
use Rattle.laws.specs.Words.{each}
use Rattle.list_open.specs.Opening.{capacity}
use Rattle.search.specs.declared.EntryRecord.{EntryRecord}
use Rattle.search.specs.declared.Kind.{Kind}
use Rattle.search.specs.declared.Kind.TheVariants.{One, Mute, Many}

-- ---- numbers and digits

-- n in decimal, at most d digits, before some text
unfoldable pub in_decimal : ℕ → ℕ → List ℕ → List ℕ
in_decimal zero n after = after
in_decimal (suc d) n after =
    if ltb n 10 then (0x30 + n) ∷ after else
    in_decimal d (n / 10) ((0x30 + n % 10) ∷ after)

-- ten digits are enough for every number of 32 bits
unfoldable pub number_text : ℕ → List ℕ
number_text n = in_decimal 10 n []

-- "eight digits, most significant first"; "mask with F". No list that opens has other digits than 0 to 9.
abbrev pub digit : ℕ → ℕ
digit d = if eqb d 0xF then 0x46 else 0x30 + d % 10

abbrev pub eight_digits : List ℕ → List ℕ
eight_digits ds = map digit ds

-- ---- the words

abbrev pub word : Kind → List ℕ
word One = ascii "one "
word Mute = ascii "mute "
word Many = ascii "many "

abbrev pub newline : List ℕ
newline = ascii "\n"

abbrev pub entries_word : List ℕ
entries_word = ascii " entries, "

abbrev pub probes_word : List ℕ
probes_word = ascii " probes\n"

abbrev pub refused_word : List ℕ
refused_word = ascii "refused "

-- ---- the lines

-- the count of a many
abbrev pub count_text : Kind → ℕ → List ℕ
count_text One n = []
count_text Mute n = []
count_text Many n = 0x20 ∷ number_text n

-- "`one` id, `mute` mask with F, `many` id count"
unfoldable pub line : EntryRecord → List ℕ
line e = word e.kind ++ eight_digits e.digits ++ count_text e.kind e.count ++ newline

abbrev pub lines : List EntryRecord → List ℕ
lines es = each es line

-- "Line 1: entry count, probes made, in these words for 1 too."
unfoldable pub first_line : ℕ → ℕ → List ℕ
first_line entries probes = number_text entries ++ entries_word ++ number_text probes ++ probes_word

unfoldable pub report_of : List EntryRecord → ℕ → List ℕ
report_of es probes = first_line (length es) probes ++ lines es

-- "A refused list prints `refused` and the number."
unfoldable pub refusal_of : ℕ → List ℕ
refusal_of n = refused_word ++ number_text n ++ newline

-- ---- a text in lent bytes

-- Line 1 has at most 38 bytes, an entry's line at most 25, and there are no more entries than meters.
abbrev pub room : ℕ
room = 38 + 25 * capacity

-- a text stands at a place of the lent bytes, the others stay; r is the place behind it
pub record Wrote (lent : List ℕ) (at : ℕ) (text : List ℕ) (r : ℕ) (after : List ℕ) : Type 0 where
  pub is : after ≡ take at lent ++ text ++ drop (at + length text) lent
  pub end : r ≡ at + length text
  pub long : length after ≡ length lent

-- a text stands at the start of the lent bytes, the others stay; r is its length
pub record Prints (lent : List ℕ) (text : List ℕ) (r : ℕ) (after : List ℕ) : Type 0 where
  pub count : r ≡ length text
  pub is : after ≡ text ++ drop (length text) lent
