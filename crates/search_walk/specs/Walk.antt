-- 01, "The search (ours)": the walk over the plain segment.
-- A prefix is a list of digits, most significant first.
use Rattle.std.specs.Prelude.{Bool, true, false, ◌&&◌, ◌||◌, List, [], ◌∷◌, ◌++◌, ℕ, zero, suc, ◌+◌, ◌-◌, eqb, leb, length, replicate, if◌then◌else◌}
use Rattle.laws.specs.Words.{keep}
use Rattle.frame.specs.Protocol.{ack_byte, addr_selected, ci_select, ci_variable, ci_fixed}
use Rattle.frame.specs.Frame.{Telegram, ack, short, long, complete, incomplete, invalid, parse, encode}
use Rattle.frame.specs.Master.{snd_ud, req_ud2, is_rsp_ud}
use Rattle.meter_identity.specs.Identity.{id_bytes_value, nibbles}
use Rattle.time_clock.specs.declared.Clock.{Clock}
use Rattle.meter_select.specs.Matching.{alike}
use Rattle.segment.specs.Plain.{Plain, with_queue}
use Rattle.segment_send.specs.Send.{send}

-- ---- the telegrams of a search

-- "the mask's digits .., F for unknown": a prefix's digits, then F up to eight
unfoldable pub mask_digits : List ℕ → List ℕ
mask_digits p = p ++ replicate (8 - length p) 0xF

-- "A probe is SND_UD (53) to FD, CI 52, eight data bytes: the mask's digits as in the id's little-endian bytes, ..,
-- then FF FF FF FF."
unfoldable pub mask : List ℕ → Telegram
mask p = snd_ud addr_selected ci_select (id_bytes_value (mask_digits p) ++ 0xFF ∷ 0xFF ∷ 0xFF ∷ 0xFF ∷ [])

-- "REQ_UD2 5B to FD"
unfoldable pub reading : Telegram
reading = req_ud2 addr_selected false

-- "masks and readings go through send at its clock, replies come from the queue"; "it takes every reply whole, so
-- that none stays queued".
-- Send's number is not looked at: no telegram of a search is refused (proofs/Fits.antt, `mask-accepted` and
-- `reading-accepted`).
unfoldable pub ask : Clock → Telegram → Plain → List ℕ × Plain
ask k t s = let r = send (encode t) k s in (r.segment.queue, with_queue [] r.segment)

-- ---- one probe and one reading

-- "It sends a mask and counts the E5"
unfoldable pub probe : Clock → List ℕ → Plain → ℕ × Plain
probe k p s = let r = ask k (mask p) s in (length (keep (λ b. eqb b ack_byte) r.0), r.1)

-- "one with the id", "mute with that mask instead", "many with id and count"; a mute holds the prefix of its mask
pub data Entry : Type 0 where
  one : List ℕ → Entry
  mute : List ℕ → Entry
  many : List ℕ → ℕ → Entry

-- "a .. telegram of RSP_UD (C masked with CF is 08), CI 72 or 73, and its first four data bytes match the mask"
unfoldable pub good : List ℕ → Telegram → Bool
good p ack = false
good p (short c a) = false
good p (long c a ci d) = is_rsp_ud (long c a ci d) && (eqb ci ci_variable || eqb ci ci_fixed) && leb 4 (length d) && alike (mask_digits p) (nibbles d)

-- "its first four data bytes ..; they are then the entry's id": as eight digits
unfoldable pub id_of : Telegram → List ℕ
id_of ack = []
id_of (short c a) = []
id_of (long c a ci d) = nibbles d

-- "the reply is good if it is one whole telegram ..; .. else the entry is a mute"
unfoldable pub entry_of : List ℕ → List ℕ → Entry
entry_of p reply =
    elim (parse reply) [
      | complete t used ↦ (if eqb used (length reply) && good p t then one (id_of t) else mute p)
      | incomplete n ↦ mute p
      | invalid why ↦ mute p
    ]

-- "One: REQ_UD2 5B to FD"
unfoldable pub read : Clock → List ℕ → Plain → Entry × Plain
read k p s = let r = ask k reading s in (entry_of p r.0, r.1)

-- ---- the walk

-- where a walk stands: the entries so far, the probes made (masks sent, readings not counted), spent or not, the
-- segment
pub record Walked : Type 0 where
  pub entries : List Entry
  pub probes : ℕ
  pub spent : Bool
  pub segment : Plain

-- "stopped before the next probe, and returns the entries so far": nothing else changes, so that a walk that was
-- stopped is stopped again before each further probe
abbrev pub stopped : Walked → Walked
stopped w = record { entries = w.entries; probes = w.probes; spent = true; segment = w.segment }

-- one probe more, which left the segment s
abbrev pub counted : Plain → Walked → Walked
counted s w = record { entries = w.entries; probes = w.probes + 1; spent = false; segment = s }

-- one entry more; the segment is s
abbrev pub noted : Entry → Plain → Walked → Walked
noted e s w = record { entries = w.entries ++ e ∷ []; probes = w.probes; spent = w.spent; segment = s }

-- after a probe that n meters answered. "None: on. One: REQ_UD2 .. Several:" what `several` says
abbrev pub answered : Clock → List ℕ → ℕ → (Walked → Walked) → Walked → Walked
answered k p zero several w = w
answered k p (suc zero) several w = let r = read k p w.segment in noted r.0 r.1 w
answered k p (suc (suc n)) several w = several w

-- one probe with the prefix p. "A spent search made exactly its allowance, stopped before the next probe"
abbrev pub probed : Clock → ℕ → List ℕ → (ℕ → Walked → Walked) → Walked → Walked
probed k allowance p several w =
    if leb allowance w.probes then stopped w else
    (let r = probe k p w.segment in answered k p r.0 (several r.0) (counted r.1 w))

-- "each of the ten is a probe with one more digit, 0 to 9"
unfoldable pub ten : List ℕ
ten = 0 ∷ 1 ∷ 2 ∷ 3 ∷ 4 ∷ 5 ∷ 6 ∷ 7 ∷ 8 ∷ 9 ∷ []

-- one digit after the other, "each probe with its reading or its row, and all rows below, before the next"
abbrev pub row : List ℕ → (ℕ → Walked → Walked) → Walked → Walked
row [] below w = w
row (d ∷ ds) below w = row ds below (below d w)

-- The walk from the prefix p on, with u digits still unknown; the digits still unknown fall.
-- "a probe that several answer starts a row of ten"; "After eight digits there is no row: many, with the E5 counted."
unfoldable pub walk : Clock → ℕ → ℕ → List ℕ → Walked → Walked
walk k allowance zero p = probed k allowance p (λ n w. noted (many p n) w.segment w)
walk k allowance (suc u) p = probed k allowance p (λ n w. row ten (λ d. walk k allowance u (p ++ d ∷ [])) w)

-- "The first mask has no digit."
unfoldable pub whole_walk : Clock → ℕ → Plain → Walked
whole_walk k allowance s = walk k allowance 8 [] (record { entries = []; probes = 0; spent = false; segment = s })
