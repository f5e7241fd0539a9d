-- "A meter passes `check`, in its order (4 to 9 below)": the first number that a record fails with, or 0. "Version
-- may be any byte."
use Rattle.std.specs.Prelude.{Bool, true, ◌&&◌, ◌||◌, not, List, [], ◌∷◌, map, ℕ, ◌-◌, eqb, ltb, length, if◌then◌else◌}
use Rattle.laws.specs.Words.{within, same_list}
use Rattle.laws.specs.Refusal.{not_refused, refused_primary, refused_id, refused_manufacturer, refused_medium, refused_own_baud, refused_fault}
use Rattle.meter.specs.Meter.{rates}
use Rattle.list_check.specs.Tables.{media, faults, is_medium_value, is_fault, is_rate_value, medium_heat_old}
use Rattle.list.specs.Layout.{Listed}

-- every byte lies between two
abbrev pub all_within_value : ℕ → ℕ → List ℕ → Bool
all_within_value lo hi [] = true
all_within_value lo hi (b ∷ bs) = within lo hi b && all_within_value lo hi bs

-- the digits of an id's text, from the characters 0 to 9
abbrev pub text_digits : List ℕ → List ℕ
text_digits t = map (λ c. c - 0x30) t

-- ID must have 8 digits
unfoldable pub good_id_value : List ℕ → Bool
good_id_value t = eqb (length t) 8 && all_within_value 0x30 0x39 t

-- three capital letters. "An empty manufacturer passes only for heat_old", by the record's own medium text
unfoldable pub good_manufacturer_value : List ℕ → List ℕ → Bool
good_manufacturer_value t medium = (eqb (length t) 3 && all_within_value 0x41 0x5A t) || (eqb (length t) 0 && same_list medium_heat_old.key medium)

-- 4 to 9: "primary over 250; id; manufacturer; medium; own baud; fault". An own baud of 0 is the bus's
unfoldable pub check : Listed → ℕ
check r =
    if ltb 250 r.primary then refused_primary else
    if not (good_id_value r.id) then refused_id else
    if not (good_manufacturer_value r.manufacturer r.medium) then refused_manufacturer else
    if not (is_medium_value media r.medium) then refused_medium else
    if not (eqb r.baud 0 || is_rate_value rates r.baud) then refused_own_baud else
    if not (is_fault faults r.fault) then refused_fault else
    not_refused

-- all records pass
abbrev pub all_pass_value : List Listed → Bool
all_pass_value [] = true
all_pass_value (r ∷ rs) = eqb (check r) not_refused && all_pass_value rs
