-- 01, "Entries": what a search that is not spent gives, said without the walk.
use Rattle.std.specs.Prelude.{◌≡◌, Bool, true, false, ◌&&◌, ◌||◌, ℕ, zero, suc, ◌+◌, eqb, leb, ltb, length, if◌then◌else◌}
use mathlib.Core.List.{List, [], ◌∷◌, map, drop_last}
use Rattle.laws.specs.Words.{keep, Every, same_list, each}
use Rattle.meter.specs.PlainMeter.{PlainMeter}
use Rattle.meter.specs.declared.Fault.{Fault}
use Rattle.meter.specs.declared.Fault.TheVariants.{None, Checksum, Truncated, Busy, WrongAddress, Flaky, TooMany}
use Rattle.meter.specs.Meter.{flaky}
use Rattle.meter_select.specs.Matching.{alike}
use Rattle.segment.specs.Plain.{Plain}
use Rattle.search_walk.specs.Walk.{mask_digits, Entry, one, mute, many, ten}

-- ---- the meters at bus baud

-- "At bus baud are the meters whose baud here is the bus baud when the search begins."
abbrev pub at_bus : ℕ → PlainMeter → Bool
at_bus bus m = eqb m.baud bus

abbrev pub at_bus_baud : Plain → List PlainMeter
at_bus_baud s = keep (at_bus s.baud) s.meters

-- "with a flaky meter at bus baud no more is claimed": no meter at bus baud is flaky
abbrev pub NoFlaky : Plain → Type 0
NoFlaky s = Every (λ m. flaky m.fault ≡ false) (at_bus_baud s)

-- "exactly if the meter's fault is checksum, truncated, busy, or too_many with two readouts or more before the search"
abbrev pub fails_by : Fault → ℕ → Bool
fails_by None readouts = false
fails_by Checksum readouts = true
fails_by Truncated readouts = true
fails_by Busy readouts = true
fails_by WrongAddress readouts = false
fails_by Flaky readouts = false
fails_by TooMany readouts = leb 2 readouts

-- its reading fails
abbrev pub reading_fails : PlainMeter → Bool
reading_fails m = fails_by m.fault m.readouts

-- ---- prefixes

-- "A prefix is the first 0 to 8 of an id's eight digits, most significant first."
abbrev pub begins : List ℕ → List ℕ → Bool
begins [] id = true
begins (d ∷ p) [] = false
begins (d ∷ p) (x ∷ id) = eqb d x && begins p id

-- the meters that have the prefix p
abbrev pub having : List PlainMeter → List ℕ → List PlainMeter
having ms p = keep (λ m. begins p m.digits) ms

-- several have it
abbrev pub shared : List PlainMeter → List ℕ → Bool
shared ms p = leb 2 (length (having ms p))

-- all prefixes of k digits
unfoldable pub prefixes : ℕ → List (List ℕ)
prefixes zero = [] ∷ []
prefixes (suc k) = each ten (λ d. map (λ q. d ∷ q) (prefixes k))

-- f 0 + f 1 + .. + f (n - 1)
unfoldable pub sum_to : ℕ → (ℕ → ℕ) → ℕ
sum_to zero f = 0
sum_to (suc n) f = f 0 + sum_to n (λ k. f (suc k))

-- D of "1 + 10 × D": how many prefixes of 0 to 7 digits several meters have
unfoldable pub D : List PlainMeter → ℕ
D ms = sum_to 8 (λ k. length (keep (shared ms) (prefixes k)))

-- ---- the entries

-- "while its parent prefix (if any) has several"
abbrev pub parent_shared : List PlainMeter → List ℕ → Bool
parent_shared ms [] = true
parent_shared ms (d ∷ p) = shared ms (drop_last (d ∷ p))

-- "one with the id"; "mute with that mask instead, exactly if" its reading fails
abbrev pub lone_entry : List ℕ → PlainMeter → Entry
lone_entry p m = if reading_fails m then mute p else one m.digits

-- The entry for the prefix p, if any, by the meters that have it; `up`: the parent prefix has several; `eight`: p has
-- eight digits.
-- "one with the id, for a prefix that a single meter at bus baud has while its parent prefix (if any) has several";
-- "many with id and count for eight digits that several have"
abbrev pub entry_by : List ℕ → List PlainMeter → Bool → Bool → List Entry
entry_by p [] up eight = []
entry_by p (m ∷ []) up eight = if up then lone_entry p m ∷ [] else []
entry_by p (m ∷ n ∷ ms) up eight = if eight then many p (length (m ∷ n ∷ ms)) ∷ [] else []

abbrev pub entry_at : List PlainMeter → List ℕ → List Entry
entry_at ms p = entry_by p (having ms p) (parent_shared ms p) (eqb (length p) 8)

-- all prefixes of 0 to n digits, in their order: a prefix comes before those that go on from it
unfoldable pub prefixes_up_to : ℕ → List (List ℕ)
prefixes_up_to zero = [] ∷ []
prefixes_up_to (suc n) = [] ∷ each ten (λ d. map (λ q. d ∷ q) (prefixes_up_to n))

-- "Order is by prefix, digit by digit."
unfoldable pub entries_of : List PlainMeter → List Entry
entries_of ms = each (prefixes_up_to 8) (entry_at ms)

-- ---- a meter in an entry

-- "A meter is in an entry whose id is its own, or whose mute mask its id matches."
abbrev pub in_entry : PlainMeter → Entry → Bool
in_entry m (one id) = same_list id m.digits
in_entry m (mute p) = alike (mask_digits p) m.digits
in_entry m (many id n) = same_list id m.digits

-- ---- rising order

-- the digits that an entry names: its id, or its mask's known ones
abbrev pub key : Entry → List ℕ
key (one id) = id
key (mute p) = p
key (many id n) = id

-- at the first digit where they differ, the first has the lower one
abbrev pub comes_before : List ℕ → List ℕ → Bool
comes_before [] ys = false
comes_before (x ∷ xs) [] = false
comes_before (x ∷ xs) (y ∷ ys) = ltb x y || (eqb x y && comes_before xs ys)

-- each entry comes before all that follow it
abbrev pub Rising : List Entry → Type 0
Rising [] = Unit {0}
Rising (e ∷ es) = Every (λ f. comes_before (key e) (key f) ≡ true) es × Rising es
