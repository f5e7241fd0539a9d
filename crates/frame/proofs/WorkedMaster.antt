-- A telegram of 01's table, a REQ_UD2 with its FCB, and answers.
use Rattle.std.proofs.Common.{◌≡◌, ℕ, true, false, [], ◌∷◌, replicate, refl}
use Rattle.frame.specs.Frame.{ack, short, long, encode, sum}
use Rattle.frame.specs.Master.{req_ud2, snd_ud, is_rsp_ud}

-- (a) the wildcard probe: SND_UD to FD, CI 52, eight bytes FF
pub wildcard : encode (snd_ud 0xFD 0x52 (replicate 8 0xFF)) ≡ 0x68 ∷ 0x0B ∷ 0x0B ∷ 0x68 ∷ 0x53 ∷ 0xFD ∷ 0x52 ∷ 0xFF ∷ 0xFF ∷ 0xFF ∷ 0xFF ∷ 0xFF ∷ 0xFF ∷ 0xFF ∷ 0xFF ∷ 0x9A ∷ 0x16 ∷ []
unfolding encode sum
wildcard = refl

-- 7B: 5B with the bit 20
pub request_with_fcb : (a : ℕ) → req_ud2 a true ≡ short 0x7B a
request_with_fcb a = refl

-- 08 with the bits ACD and DFC, and no other, is an answer with user data; an acknowledgement is none
pub answers : (is_rsp_ud (long 0x38 5 0x72 []) ≡ true) × (is_rsp_ud (long 0x18 5 0x72 []) ≡ true) × (is_rsp_ud (long 0x48 5 0x72 []) ≡ false) × (is_rsp_ud ack ≡ false)
answers = (refl, refl, refl, refl)
