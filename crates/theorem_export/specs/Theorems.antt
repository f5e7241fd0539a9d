-- What holds of every export of a segment as calls left it, where it is not refused (Req 04).
use Rattle.std.specs.Prelude.{◌≡◌, ◌↔◌, Bool, List, [], ◌∷◌, ℕ, take}
use Rattle.laws.specs.Words.{Bytes}
use Rattle.laws.specs.Refusal.{not_refused}
use Rattle.meter.specs.PlainMeter.{PlainMeter}
use Rattle.list_open.specs.Opening.{opens, open_list_value}
use Rattle.segment.specs.Plain.{Plain}
use Rattle.segment_export.specs.Export.{Exported, export_into_value}
use Rattle.theorem_as_left.specs.Left.{AsCallsLeft}

-- "equal in primary, id, manufacturer code, version, medium with its model, fault and baud"
pub record Agree (m n : PlainMeter) : Type 0 where
  pub primary : m.primary ≡ n.primary
  pub digits : m.digits ≡ n.digits
  pub manufacturer : m.manufacturer ≡ n.manufacturer
  pub version : m.version ≡ n.version
  pub medium : m.medium ≡ n.medium
  pub model : m.model ≡ n.model
  pub fault : m.fault ≡ n.fault
  pub baud : m.baud ≡ n.baud

-- as many meters, and each agrees with the one in its place
abbrev pub AllAgree : List PlainMeter → List PlainMeter → Type 0
AllAgree [] [] = Unit {0}
AllAgree [] (n ∷ ns) = ⊥
AllAgree (m ∷ ms) [] = ⊥
AllAgree (m ∷ ms) (n ∷ ns) = Agree m n × AllAgree ms ns

-- the list that an export wrote: the first of the lent bytes
abbrev pub written : Exported → List ℕ
written e = take e.count e.lent

-- a list of bytes is accepted at this bus baud, and gives meters that agree with these
pub record OpensTo (list : List ℕ) (bus : ℕ) (practice : Bool) (ms : List PlainMeter) : Type 0 where
  pub bytes : Bytes list
  pub opened : List PlainMeter
  pub accepted : open_list_value list bus practice ≡ opens opened
  pub agree : AllAgree opened ms

-- "Opened at that bus baud without the practice flag it gives meters equal in ..". With the flag too: an own baud that is
-- not 0 is not the bus baud, so that the flag changes none
abbrev pub OpensAgain : Type 0
OpensAgain =
    (s : Plain) (lent : List ℕ) (practice : Bool) → AsCallsLeft s → (export_into_value lent s).number ≡ not_refused
    → OpensTo (written (export_into_value lent s)) s.baud practice s.meters

-- "Two segments at one bus baud, neither refused, export equal bytes exactly when their meters agree in these."
abbrev pub EqualBytes : Type 0
EqualBytes =
    (s t : Plain) (lent lent₁ : List ℕ) → AsCallsLeft s → AsCallsLeft t → s.baud ≡ t.baud
    → (export_into_value lent s).number ≡ not_refused → (export_into_value lent₁ t).number ≡ not_refused
    → (written (export_into_value lent s) ≡ written (export_into_value lent₁ t)) ↔ AllAgree s.meters t.meters
