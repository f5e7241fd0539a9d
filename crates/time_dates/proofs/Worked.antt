-- What `Dates.antt` says, held to the examples of 01.
use mathlib.Core.Path.{◌≡◌, refl}
use mathlib.Core.List.{[], ◌∷◌}
use Rattle.time_dates.specs.Dates.{type_g_value, type_f_value}

-- (g) 30.9.2026: 5E 39
pub worked_g : type_g_value 2026 9 30 ≡ 0x5E ∷ 0x39 ∷ []
unfolding type_g_value
worked_g = refl

-- the same day at 13:05
pub with_time : type_f_value 2026 9 30 13 5 ≡ 0x05 ∷ 0x0D ∷ 0x5E ∷ 0x39 ∷ []
unfolding type_f_value type_g_value
with_time = refl
