-- How the replies to one telegram join (01, "Send, select, receive").
use Rattle.std.specs.Prelude.{ℕ, zero, suc, max, Bool, true, false, ◌&&◌, List, [], ◌∷◌, ◌++◌, length, ◌==◌, bit_and, slice_index_or, if◌then◌else◌}
use Rattle.frame.specs.Protocol.{ack_byte}

-- ---- "Replies join thus"

-- equal to E5
abbrev pub is_e5 : List ℕ → Bool
is_e5 [] = false
is_e5 (b ∷ []) = b == ack_byte
is_e5 (b ∷ c ∷ bs) = false

abbrev pub all_e5 : List (List ℕ) → Bool
all_e5 [] = true
all_e5 (r ∷ rs) = is_e5 r && all_e5 rs

-- "end to end"
abbrev pub end_to_end : List (List ℕ) → List ℕ
end_to_end [] = []
end_to_end (r ∷ rs) = r ++ end_to_end rs

abbrev pub longest : List (List ℕ) → ℕ
longest [] = 0
longest (r ∷ rs) = max (length r) (longest rs)

-- "bytewise AND, shorter ones filled with FF": the byte at a place i of all the replies
abbrev pub overlaid : List (List ℕ) → ℕ → ℕ
overlaid [] i = 0xFF
overlaid (r ∷ rs) i = bit_and (slice_index_or r i 0xFF) (overlaid rs i)

-- the bytes at n places from i on
abbrev pub places : (ℕ → ℕ) → ℕ → ℕ → List ℕ
places f i zero = []
places f i (suc n) = f i ∷ places f (suc i) n

-- "none, nothing; one, itself; several all equal to E5, end to end; else bytewise AND", as long as the longest
unfoldable pub joined : List (List ℕ) → List ℕ
joined [] = []
joined (r ∷ []) = r
joined (r ∷ q ∷ rs) =
    if all_e5 (r ∷ q ∷ rs) then end_to_end (r ∷ q ∷ rs) else
    places (overlaid (r ∷ q ∷ rs)) 0 (longest (r ∷ q ∷ rs))
