-- The walk over packed meters, in the steps of 01's walk (search_walk, specs/Walk.antt). That it finds what 01's walk
-- finds is proved (search, proofs/PackedWalk).
-- An entry is one number: the id with the E5 counted in front of it (one: 1), or a mute's mask, F for unknown, with
-- 0; in front is what is above 2^32.
use Rattle.std.specs.Prelude.{◌≡◌, ℕ, zero, suc, ◌+◌, ◌*◌, Bool, true, false, List, [], ◌∷◌, ◌++◌, length, take, Option, None, Some, ◌==◌, nat_le, nat_lt, if◌then◌else◌}
use Rattle.list_open.specs.Opening.{capacity}
use Rattle.search_packed.specs.declared.walk.Walk.{Walk}
use Rattle.search_packed.specs.ProgramMarks.{masked, acked, read_key_value, read_by, swept_by, fold_by}

-- where a walk stands
pub record PackedRun : Type 0 where
  pub entries : List ℕ
  pub probes : ℕ
  pub spent : Bool
  pub marks : List ℕ

-- the program's walk: the keys that it probes, its allowance, and where it stands
pub record Walking : Type 0 where
  pub keys : List ℕ
  pub allowance : ℕ
  pub run : PackedRun

unfoldable pub walking : List ℕ → List ℕ → ℕ → List ℕ → ℕ → ℕ → Bool → Walking
walking ks ss allowance es found probes spent =
    record { keys = ks; allowance = allowance; run = record { entries = take found es; probes = probes; spent = spent; marks = ss } }

-- a walk, without the places past those found
abbrev pub walking_of : Walk → Walking
walking_of w = walking w.keys w.marks w.allowance w.entries w.found w.probes w.spent

-- the same walk, when it stands at t
abbrev pub goes_to : Walking → PackedRun → Walking
goes_to w t = record { keys = w.keys; allowance = w.allowance; run = t }

-- one entry more, as long as there is a place
unfoldable pub packed_push : ℕ → List ℕ → List ℕ
packed_push e es = if nat_lt (length es) capacity then es ++ e ∷ [] else es

-- stopped before the next probe
abbrev pub packed_stop : PackedRun → PackedRun
packed_stop t = record { entries = t.entries; probes = t.probes; spent = true; marks = t.marks }

-- one probe more, which left the marks ss
abbrev pub packed_count : List ℕ → PackedRun → PackedRun
packed_count ss t = record { entries = t.entries; probes = t.probes + 1; spent = false; marks = ss }

-- one entry more; the marks are ss
abbrev pub packed_note : ℕ → List ℕ → PackedRun → PackedRun
packed_note e ss t = record { entries = packed_push e t.entries; probes = t.probes; spent = t.spent; marks = ss }

-- a probe without its row, and how many answered where they are several
pub record Once : Type 0 where
  pub many : ℕ
  pub run : PackedRun

-- the program's word for how many answered: none where it is not several
abbrev pub several_of : ℕ → Option ℕ
several_of zero = None
several_of (suc n) = Some (suc n)

-- n acknowledged: one is read, several are left to the caller
abbrev pub packed_heard : List ℕ → ℕ → ℕ → List ℕ → PackedRun → Once
packed_heard ks high n ss t =
    if n == 1 then record { many = 0; run = packed_note (fold_by read_key_value high capacity ks ss) (swept_by read_by capacity ks ss) (packed_count ss t) }
    else record { many = n; run = packed_count ss t }

-- one probe of the mask low..high, unless the allowance is spent
unfoldable pub packed_once : List ℕ → ℕ → ℕ → ℕ → PackedRun → Once
packed_once ks allowance low high t =
    if nat_le allowance t.probes then record { many = 0; run = packed_stop t }
    else packed_heard ks high (fold_by (acked low high) 0 capacity ks t.marks) (swept_by (masked low high) capacity ks t.marks) t

-- what the program's probe of it says and leaves
pub record Asked (w : Walking) (low high : ℕ) (many : Option ℕ) (v : Walking) : Type 0 where
  pub answered : many ≡ several_of (packed_once w.keys w.allowance low high w.run).many
  pub walk : v ≡ goes_to w (packed_once w.keys w.allowance low high w.run).run

-- how far a mask with u digits unknown goes: 16^u - 1
unfoldable pub span_of : ℕ → ℕ
span_of zero = 0
span_of (suc u) = span_of u * 16 + 15

-- n masks, each by `unit` higher than the one before
unfoldable pub packed_row : (ℕ → PackedRun → PackedRun) → ℕ → ℕ → ℕ → PackedRun → PackedRun
packed_row f unit zero l t = t
packed_row f unit (suc n) l t = packed_row f unit n (l + unit) (f l t)

-- what follows one probe: `several` where several answered
abbrev pub packed_then : Once → (PackedRun → PackedRun) → PackedRun
packed_then o several = if o.many == 0 then o.run else several o.run

-- the walk from the mask that begins at low, with u digits unknown
unfoldable pub packed_walk : List ℕ → ℕ → ℕ → ℕ → PackedRun → PackedRun
packed_walk ks allowance zero low t =
    let o = packed_once ks allowance low (low + span_of 0) t in
    packed_then o (λ r. packed_note (o.many * 0x100000000 + low) r.marks r)
packed_walk ks allowance (suc u) low t =
    let o = packed_once ks allowance low (low + span_of (suc u)) t in
    packed_then o (packed_row (packed_walk ks allowance u) (span_of u + 1) 10 low)

-- the walk from the mask with no digit, which finds the marks ss
abbrev pub packed_whole : List ℕ → List ℕ → ℕ → PackedRun
packed_whole ks ss allowance = packed_walk ks allowance 8 0 (record { entries = []; probes = 0; spent = false; marks = ss })

-- the program's walk from the mask with no digit, at its end
abbrev pub walk_all_value : List ℕ → List ℕ → ℕ → Walking
walk_all_value ks ss allowance = record { keys = ks; allowance = allowance; run = packed_whole ks ss allowance }
