-- The bytes of the protocol (EN 13757-2 and -3): a name for each, the Rust's where it has one.
use Rattle.std.specs.Prelude.{ℕ}

-- ---- the first and the last byte of a telegram

-- the one byte of an ACK
abbrev pub ack_byte : ℕ
ack_byte = 0xE5

-- the first byte of a short telegram
abbrev pub start_short : ℕ
start_short = 0x10

-- the first byte of a long telegram, and its fourth
abbrev pub start_long : ℕ
start_long = 0x68

-- the last byte of both
abbrev pub stop_byte : ℕ
stop_byte = 0x16

-- ---- C, the control field

-- SND_NKE
abbrev pub c_snd_nke : ℕ
c_snd_nke = 0x40

-- SND_UD
abbrev pub c_snd_ud : ℕ
c_snd_ud = 0x53

-- REQ_UD2
abbrev pub c_req_ud2 : ℕ
c_req_ud2 = 0x5B

-- RSP_UD
abbrev pub c_rsp_ud : ℕ
c_rsp_ud = 0x08

-- FCB, the alternation bit
abbrev pub fcb_bit : ℕ
fcb_bit = 0x20

-- "C masked with CF": all bits but 20 and 10
abbrev pub c_mask : ℕ
c_mask = 0xCF

-- SND_UD and REQ_UD2, masked; RSP_UD stays 08
abbrev pub c_snd_ud_masked : ℕ
c_snd_ud_masked = 0x43

abbrev pub c_req_ud2_masked : ℕ
c_req_ud2_masked = 0x4B

-- ---- A, the address

-- the selected meters
abbrev pub addr_selected : ℕ
addr_selected = 0xFD

-- all meters, which reply
abbrev pub addr_broadcast_reply : ℕ
addr_broadcast_reply = 0xFE

-- all meters, without a reply
abbrev pub addr_broadcast : ℕ
addr_broadcast = 0xFF

-- ---- CI, what the data are

-- to a meter: reset
abbrev pub ci_app_reset : ℕ
ci_app_reset = 0x50

-- to a meter: data to be set
abbrev pub ci_data_send : ℕ
ci_data_send = 0x51

-- to a meter: select
abbrev pub ci_select : ℕ
ci_select = 0x52

-- to a meter: the first and the last of its eight rates
abbrev pub ci_first_baud : ℕ
ci_first_baud = 0xB8

abbrev pub ci_last_baud : ℕ
ci_last_baud = 0xBF

-- from a meter: an error
abbrev pub ci_error : ℕ
ci_error = 0x70

-- from a meter: variable data
abbrev pub ci_variable : ℕ
ci_variable = 0x72

-- from a meter: fixed data
abbrev pub ci_fixed : ℕ
ci_fixed = 0x73
