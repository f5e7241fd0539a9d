-- The changes of a meter's parts, and whether it hears a telegram (01, "Send, select, receive").
use Rattle.std.specs.Prelude.{Option, None as no_fcb, Bool, true, false, not, List, [], ◌∷◌, ℕ, if◌then◌else◌}
use Rattle.meter.specs.PlainMeter.{PlainMeter}
use Rattle.meter.specs.declared.Fault.{Fault}
use Rattle.meter.specs.declared.Fault.TheVariants.{None, Checksum, Truncated, Busy, WrongAddress, Flaky, TooMany}

-- BAUD_RATES, number 0 to 7
unfoldable pub rates : List ℕ
rates = 300 ∷ 600 ∷ 1200 ∷ 2400 ∷ 4800 ∷ 9600 ∷ 19200 ∷ 38400 ∷ []

-- ---- a meter with some parts changed

-- what telegrams change stands in five groups: how it is reached, whether it is selected, where its readout stands,
-- what is counted,
-- and whether a flaky one hears next
abbrev pub with : PlainMeter → (reached : ℕ × ℕ) → (selected : Bool) → (standing : ℕ × Option Bool) → (counters : ℕ × ℕ) → (hears_next : Bool) → PlainMeter
with m reached selected standing counters hears_next =
    record {
      primary = reached.0;
      digits = m.digits;
      manufacturer = m.manufacturer;
      version = m.version;
      medium = m.medium;
      model = m.model;
      fault = m.fault;
      access = counters.0;
      baud = reached.1;
      selected = selected;
      part = standing.0;
      last = standing.1;
      readouts = counters.1;
      seed = m.seed;
      hears_next = hears_next;
    }

-- the groups as they are: primary address and baud; part and last FCB; access number and readouts
abbrev pub reached : PlainMeter → ℕ × ℕ
reached m = (m.primary, m.baud)

abbrev pub standing : PlainMeter → ℕ × Option Bool
standing m = (m.part, m.last)

abbrev pub counters : PlainMeter → ℕ × ℕ
counters m = (m.access, m.readouts)

abbrev pub with_primary_value : ℕ → PlainMeter → PlainMeter
with_primary_value p m = with m (p, m.baud) m.selected (standing m) (counters m) m.hears_next

abbrev pub with_baud_value : ℕ → PlainMeter → PlainMeter
with_baud_value b m = with m (m.primary, b) m.selected (standing m) (counters m) m.hears_next

abbrev pub with_selected_value : Bool → PlainMeter → PlainMeter
with_selected_value s m = with m (reached m) s (standing m) (counters m) m.hears_next

abbrev pub with_hears_next : Bool → PlainMeter → PlainMeter
with_hears_next h m = with m (reached m) m.selected (standing m) (counters m) h

abbrev pub with_standing_value : ℕ × Option Bool → PlainMeter → PlainMeter
with_standing_value s m = with m (reached m) m.selected s (counters m) m.hears_next

abbrev pub with_counters_value : ℕ × ℕ → PlainMeter → PlainMeter
with_counters_value c m = with m (reached m) m.selected (standing m) c m.hears_next

-- "reset": part 0 and no last FCB, as a fresh meter has them
abbrev pub reset : PlainMeter → PlainMeter
reset m = with_standing_value (0, no_fcb) m

-- ---- hearing

abbrev pub flaky : Fault → Bool
flaky None = false
flaky Checksum = false
flaky Truncated = false
flaky Busy = false
flaky WrongAddress = false
flaky Flaky = true
flaky TooMany = false

-- "A flaky meter hears every second telegram put to it"; "All others always hear"
unfoldable pub hears : PlainMeter → Bool
hears m = if flaky m.fault then m.hears_next else true

-- the meter once a telegram was put to it: a flaky one hears the next exactly if it did not hear this one
unfoldable pub offered : PlainMeter → PlainMeter
offered m = if flaky m.fault then with_hears_next (not m.hears_next) m else m
