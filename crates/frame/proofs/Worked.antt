-- A telegram of 01's table, and the C fields masked.
use Rattle.std.proofs.Common.{◌≡◌, [], ◌∷◌, refl}
use lib.Bits.{bit_and}
use Rattle.frame.specs.Protocol.{c_snd_ud, c_req_ud2, c_rsp_ud, c_mask, c_snd_ud_masked, c_req_ud2_masked}
use Rattle.frame.specs.Frame.{long, encode, sum, incomplete, parse_short_value, parse_long_value, parse}

-- (e) the busy answer of the meter at 11
pub busy : encode (long 0x08 0x0B 0x70 (0x08 ∷ [])) ≡ 0x68 ∷ 0x04 ∷ 0x04 ∷ 0x68 ∷ 0x08 ∷ 0x0B ∷ 0x70 ∷ 0x08 ∷ 0x8B ∷ 0x16 ∷ []
unfolding encode sum
busy = refl

-- "C masked with CF is 43", 4B, 08
pub masked-snd_ud : bit_and c_snd_ud c_mask ≡ c_snd_ud_masked
masked-snd_ud = refl

pub masked-req_ud2 : bit_and c_req_ud2 c_mask ≡ c_req_ud2_masked
masked-req_ud2 = refl

pub masked_rsp_ud : bit_and c_rsp_ud c_mask ≡ c_rsp_ud
masked_rsp_ud = refl

-- Req 01: "4 for a lone 10, 3 for a lone 68, the rest of L + 6 once a sound header is there, 1 for nothing"
pub lone_10 : parse (0x10 ∷ []) ≡ incomplete 4
unfolding parse parse_short_value
lone_10 = refl

pub lone_68 : parse (0x68 ∷ []) ≡ incomplete 3
unfolding parse parse_long_value
lone_68 = refl

pub after_header : parse (0x68 ∷ 0x0B ∷ 0x0B ∷ 0x68 ∷ 0x53 ∷ []) ≡ incomplete 12
unfolding parse parse_long_value
after_header = refl

pub of_nothing : parse [] ≡ incomplete 1
unfolding parse
of_nothing = refl
