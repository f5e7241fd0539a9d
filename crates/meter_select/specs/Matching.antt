-- Whether a select's mask matches a meter (01, "Send, select, receive").
use Rattle.std.specs.Prelude.{Bool, true, false, ◌&&◌, ◌||◌, List, [], ◌∷◌, ℕ, ◌+◌, ◌*◌, eqb, leb, length}
use Rattle.laws.specs.Words.{at}
use Rattle.meter_identity.specs.Identity.{nibbles}
use Rattle.meter.specs.PlainMeter.{PlainMeter}

-- "digit by digit, a digit F matching any"
unfoldable pub alike : List ℕ → List ℕ → Bool
alike [] [] = true
alike [] (v ∷ vs) = false
alike (d ∷ ds) [] = false
alike (d ∷ ds) (v ∷ vs) = (eqb d 0xF || eqb d v) && alike ds vs

-- "Under eight bytes nothing matches. The first four bytes match the id digit by digit"
abbrev pub id_matches_value : List ℕ → List ℕ → Bool
id_matches_value d digits = leb 8 (length d) && alike (nibbles d) digits

-- "..; then FF FF or the manufacturer's code, low byte first;
-- FF or the version; FF or the medium."
unfoldable pub matches : List ℕ → PlainMeter → Bool
matches d m =
    id_matches_value d m.digits
    && (eqb (at d 4 + at d 5 * 256) 0xFFFF || eqb (at d 4 + at d 5 * 256) m.manufacturer)
    && (eqb (at d 6) 0xFF || eqb (at d 6) m.version)
    && (eqb (at d 7) 0xFF || eqb (at d 7) m.medium)
