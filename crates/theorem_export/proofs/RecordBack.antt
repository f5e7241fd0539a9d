-- The record of a sound meter with a primary up to 250: it passes, and its meter agrees with the one that it is of.
use mathlib.Core.Path.{◌≡◌, refl}
use mathlib.Core.Bool.{Bool, false}
use Prim.Native.Nat.{ℕ}
use lib.Dec.{ltb}
use Rattle.meter.specs.PlainMeter.{PlainMeter}
use Rattle.list_check.specs.Check.{check}
use Rattle.list_meter.specs.Fresh.{fresh}
use Rattle.list_write.specs.Record.{record_for}
use Rattle.theorem_as_left.specs.Left.{SoundMeter}
use Rattle.theorem_export.specs.Theorems.{Agree}
use Rattle.theorem_export.proofs.PartsBack.{medium_back, fault_back, id_back, id_good, maker_back, baud_back}

module _ (bus : ℕ) (m : PlainMeter) (sound : SoundMeter m) where
  pub record_passes : ltb 250 m.primary ≡ false → check (record_for bus m) ≡ 0
  unfolding check record_for
  record_passes low =
      rw (
        low,
        id_good m.digits sound.eight sound.decimals,
        (maker_back m sound.maker).good,
        (medium_back m sound.medium).key,
        (baud_back bus m.baud sound.baud).good,
        (fault_back m.fault).key,
      )

  pub record_back : (practice : Bool) → Agree (fresh bus practice (record_for bus m)) m
  unfolding fresh record_for
  record_back practice =
      record {
        primary = refl;
        digits = id_back m.digits;
        manufacturer = (maker_back m sound.maker).back;
        version = refl;
        medium = (medium_back m sound.medium).code_back;
        model = (medium_back m sound.medium).model_back;
        fault = (fault_back m.fault).back;
        baud = (baud_back bus m.baud sound.baud).back practice;
      }
