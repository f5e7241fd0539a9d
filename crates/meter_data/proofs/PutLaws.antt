-- Bytes put behind bytes.
use mathlib.Core.Path.{◌≡◌, ap, ◌∙◌}
use mathlib.Core.List.{List, ◌∷◌, ◌++◌, append_assoc}
use Prim.Native.Nat.{ℕ}
use Rattle.meter_data.specs.ProgramData.{Puts}

-- first bs, then cs
pub both : {d e r bs cs : List ℕ} → Puts d bs e → Puts e cs r → Puts d (bs ++ cs) r
both {d} {e} {r} {bs} {cs} p q = record { is = q.is ∙ ap (λ l. l ++ cs) p.is ∙ append_assoc d bs cs }

-- other bytes that are the same
pub put_as : {d r bs cs : List ℕ} → bs ≡ cs → Puts d bs r → Puts d cs r
put_as {d} e p = record { is = p.is ∙ ap (λ l. d ++ l) e }

-- the same of a record's value
pub value_as : {d r v w : List ℕ} {dif vif : ℕ} → v ≡ w → Puts d (dif ∷ vif ∷ v) r → Puts d (dif ∷ vif ∷ w) r
value_as {d} {r} {v} {w} {dif} {vif} e p = put_as (ap (λ l. dif ∷ vif ∷ l) e) p

-- behind bytes that are known
pub behind : {d r hs bs : List ℕ} → d ≡ hs → Puts d bs r → r ≡ hs ++ bs
behind {d} {r} {hs} {bs} e p = p.is ∙ ap (λ l. l ++ bs) e
