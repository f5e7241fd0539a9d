-- Telegrams and numbers as bytes.
use mathlib.Core.List.{List, [], ◌∷◌}
use Prim.Native.Nat.{ℕ, ◌≤◌}
use native.Mathlib.Omega.{arith}
use lib.Dec.{ltb}
use lib.ListN.{length, length-append}
use borrow.Author.Tests.{ltb-false}
use Rattle.laws.proofs.Lists.{if_all, if_with}
use Rattle.frame.specs.Frame.{Telegram, ack, short, long, encode, data_of}
use Rattle.frame_write.specs.Writer.{WriteOutcome, write}
use Rattle.frame_write.specs.declared.WriteError.{WriteError}
use Rattle.frame_write.specs.declared.WriteError.TheVariants.{DataTooLong, NoRoom}
use Rattle.frame_write.specs.View.{refusal_number}

-- a telegram with data of at most 252 bytes has at most 261
encoded_most : (t : Telegram) → length (data_of t) ≤ 252 → length (encode t) ≤ 261
unfolding encode
encoded_most ack h = omega arith
encoded_most (short c a) h = omega arith
encoded_most (long c a ci d) h = rw (length-append d (_ ∷ 0x16 ∷ [])) (omega (arith, h))

abbrev pub Most : WriteOutcome → Type 0
Most w = w.count ≤ 261

pub written_most : (t : Telegram) (lent : List ℕ) → Most (write t lent)
unfolding write
written_most t lent =
    if_with Most (ltb 252 (length (data_of t))) _ _ (λ _. omega arith)
    (λ h. if_all Most (ltb (length lent) (length (encode t))) _ _ (omega arith) (encoded_most t (ltb-false 252 (length (data_of t)) h)))

-- a refusal's number is 11 or 12
pub refusal_most : (e : WriteError) → refusal_number e ≤ 12
refusal_most DataTooLong = omega arith
refusal_most NoRoom = omega arith
