-- The proofs of specs/Theorems.antt.
use Rattle.std.specs.Prelude.{if◌then◌else◌}
use Rattle.std.proofs.Common.{◌≡◌, ℕ, ◌≤◌, Bool, true, false, ltb, List, ◌++◌, length, take, drop, sym, ap, ◌∙◌, arith, take-append-drop, length-take-le}
use Rattle.laws.specs.Words.{Bytes}
use Rattle.frame.specs.Frame.{Telegram, ack, short, long, complete, parse, encode, data_of}
use Rattle.frame.proofs.RoundTrip.{parse-encode, parse_back}
use Rattle.frame_write.specs.Writer.{WriteOutcome, write}
use Rattle.frame_write.specs.Theorems.{WrittenBackByWriter, ParsedFromWriter}
use Rattle.frame_write.proofs.WritingLaws.{write-fits}

-- the second byte of a long telegram counts the data
counts : (t : Telegram) (rest : List ℕ) → Bytes (encode t ++ rest) → length (data_of t) ≤ 252
unfolding encode
counts ack rest h = omega arith
counts (short c a) rest h = omega arith
counts (long c a ci d) rest h = omega (arith, h.1.0)

pub written_back_by_writer : WrittenBackByWriter
written_back_by_writer bs lent t n h e k =
    let b = parse_back bs t n e in
    let l : length (encode t) ≡ n = ap length (sym b.0) ∙ length-take-le n bs b.1 in
    let w : encode t ++ drop n bs ≡ bs = ap (λ x. x ++ drop n bs) (sym b.0) ∙ take-append-drop n bs in
    sym (write-fits t lent n (take n bs ++ drop n lent) l (counts t (drop n bs) (rw w h)) k (ap (λ x. x ++ drop n lent) b.0))

-- write, by its two tests
abbrev tested : Telegram → List ℕ → Bool → Bool → WriteOutcome
tested t lent a b =
    if a then record { number = 11; count = 0; lent = lent } else
    if b then record { number = 12; count = 0; lent = lent } else
    record { number = 0; count = length (encode t); lent = encode t ++ drop (length (encode t)) lent }

pub parsed_from_writer : ParsedFromWriter
unfolding write
parsed_from_writer t lent e = go (ltb 252 (length (data_of t))) (ltb (length lent) (length (encode t))) e
  where
    go : (a b : Bool) → (tested t lent a b).number ≡ 0 → parse (tested t lent a b).lent ≡ complete t (tested t lent a b).count
    go true b f = absurd (omega arith)
    go false true f = absurd (omega arith)
    go false false f = parse-encode t (drop (length (encode t)) lent)
