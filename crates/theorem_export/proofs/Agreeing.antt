-- Meters that agree: two that agree with a third agree with each other, and they have the same record.
use mathlib.Core.Path.{◌≡◌, refl, sym, ap₂, ◌∙◌}
use mathlib.Core.List.{List, [], ◌∷◌, map}
use Prim.Native.Nat.{ℕ}
use Rattle.meter.specs.PlainMeter.{PlainMeter}
use Rattle.list_write.specs.Record.{record_for}
use Rattle.theorem_export.specs.Theorems.{Agree, AllAgree}

agree_with : (o m n : PlainMeter) → Agree o m → Agree o n → Agree m n
agree_with o m n a b =
    record {
      primary = sym a.primary ∙ b.primary;
      digits = sym a.digits ∙ b.digits;
      manufacturer = sym a.manufacturer ∙ b.manufacturer;
      version = sym a.version ∙ b.version;
      medium = sym a.medium ∙ b.medium;
      model = sym a.model ∙ b.model;
      fault = sym a.fault ∙ b.fault;
      baud = sym a.baud ∙ b.baud;
    }

-- two lists whose meters agree with those of a third
pub all_agree_with : (os ms ns : List PlainMeter) → AllAgree os ms → AllAgree os ns → AllAgree ms ns
all_agree_with [] [] [] a b = tt
all_agree_with (o ∷ os) (m ∷ ms) (n ∷ ns) a b = (agree_with o m n a.0 b.0, all_agree_with os ms ns a.1 b.1)
all_agree_with [] [] (n ∷ ns) a b = elim b [ ]
all_agree_with [] (m ∷ ms) ns a b = elim a [ ]
all_agree_with (o ∷ os) [] ns a b = elim a [ ]
all_agree_with (o ∷ os) (m ∷ ms) [] a b = elim b [ ]

-- ---- their records are the same: a record has no other part of a meter than those that agree

module _ (bus : ℕ) where
  record_same : (m n : PlainMeter) → Agree m n → record_for bus m ≡ record_for bus n
  unfolding record_for
  record_same m n a = rw (a.primary, a.digits, a.manufacturer, a.version, a.medium, a.model, a.fault, a.baud)

  pub records_same : (ms ns : List PlainMeter) → AllAgree ms ns → map (record_for bus) ms ≡ map (record_for bus) ns
  records_same [] [] a = refl
  records_same (m ∷ ms) (n ∷ ns) a = ap₂ (λ r rs. r ∷ rs) (record_same m n a.0) (records_same ms ns a.1)
  records_same [] (n ∷ ns) a = elim a [ ]
  records_same (m ∷ ms) [] a = elim a [ ]
