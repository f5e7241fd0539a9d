-- A telegram that was written whole, and bytes of it changed or cut off.
use Rattle.std.proofs.Common.{◌≡◌, ℕ, ◌-◌, ◌/◌, ◌≤◌, List, ◌++◌, length, get_or, take, drop, set, sym, refl, ap, ◌∙◌, arith, length-take, get_or-take, take-take, take_at}
use lib.Bits.{bit_xor}
use lib.Seq.{take-set-lt}
use Rattle.frame_write.proofs.WritingLaws.{write-fits}
use Rattle.frame.specs.Frame.{Telegram, long, encode, data_of}
use Rattle.frame.proofs.RoundTrip.{length_long}
use Rattle.frame_write.specs.Writer as definitions
use Rattle.frame_write.specs.Writer.{write}
use Rattle.frame_write.specs.View.{written_count, written_of}
use Rattle.frame_write.specs.declared.WriteError.{WriteError}
use Rattle.std.specs.Prelude.{Result, Ok, Err}
use Rattle.std.specs.Result.{result_unwrap_or}
use Rattle.meter_reply.specs.Response.{damaged}
use Rattle.meter.specs.declared.Fault.TheVariants.{Checksum, Truncated}

-- what was written, by the count
pub sent : (w : Result ℕ WriteError) (t : Telegram) (was now : List ℕ) → written_of w now ≡ write t was → length (data_of t) ≤ 252 → length (encode t) ≤ length was
    → take (written_count w) now ≡ encode t
sent w t was now e h k =
    let f : written_of w now ≡ record { number = 0; count = length (encode t); lent = encode t ++ drop (length (encode t)) was } = e ∙ sym (write-fits t was (length (encode t)) _ refl h k refl) in
    ap (λ (r : definitions.WriteOutcome). take r.count r.lent) f ∙ take_at (encode t) (drop (length (encode t)) was) (length (encode t)) refl

-- the bytes written, 0 of a refusal
counted : (w : Result ℕ WriteError) → result_unwrap_or w 0 ≡ written_count w
counted (Ok n) = refl
counted (Err e) = refl

-- the same for long data that fit a reply, by their count n
pub sent_long : (w : Result ℕ WriteError) (n c a ci : ℕ) (d e was now : List ℕ) → n ≡ result_unwrap_or w 0 → d ≡ e → length d ≤ 87 → length was ≡ 96
    → written_of w now ≡ write (long c a ci d) was → take n now ≡ encode (long c a ci e)
sent_long w n c a ci d e was now q s h l p =
    ap (λ x. take x now) (q ∙ counted w)
    ∙ sent w (long c a ci d) was now p (omega arith) (omega (arith, length_long c a ci d))
    ∙ ap (λ x. encode (long c a ci x)) s

-- how many are taken at most
taken_most : (k : ℕ) (xs : List ℕ) → length (take k xs) ≤ k
taken_most k xs = omega (arith, length-take k xs)

pub flip_taken : (k n : ℕ) (xs : List ℕ) → n ≡ length (take k xs) → 2 ≤ n
    → take k (set xs (n - 2) (bit_xor (get_or xs (n - 2) 0) 0x5A)) ≡ damaged Checksum (take k xs)
unfolding damaged
flip_taken k n xs e h =
    let m = taken_most k xs in
    rw (sym e, get_or-take k xs (n - 2) 0 (omega arith)) (take-set-lt k xs (n - 2) (bit_xor (get_or xs (n - 2) 0) 0x5A) (omega arith))

pub cut_taken : (k n : ℕ) (xs : List ℕ) → n ≡ length (take k xs) → take (n / 2) xs ≡ damaged Truncated (take k xs)
unfolding damaged
cut_taken k n xs e = let m = taken_most k xs in rw (sym e) (sym (take-take (n / 2) k xs (omega arith)))
