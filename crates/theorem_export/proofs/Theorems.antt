-- The theorems of specs/Theorems.
use mathlib.Core.Path.{◌≡◌, sym, ◌∙◌}
use mathlib.Core.Bool.{Bool, false}
use mathlib.Core.List.{List}
use Prim.Native.Nat.{ℕ}
use native.Mathlib.Omega.{arith}
use lib.Dec.{ltb}
use lib.ListN.{length, drop}
use lib.Seq.{take-append_seam}
use Rattle.laws.specs.Refusal.{not_refused}
use Rattle.laws.proofs.Lists.{if_with}
use Rattle.segment.specs.Plain.{Plain}
use Rattle.segment_export.specs.Export.{list_of, any_above250, Exported, export_into_value}
use Rattle.theorem_as_left.specs.Left.{Sound}
use Rattle.theorem_as_left.proofs.Left.{left_sound}
use Rattle.theorem_export.specs.Theorems.{AllAgree, written, OpensTo, OpensAgain, EqualBytes}
use Rattle.theorem_export.proofs.ListBack.{all_listable, bytes_each, again, again_agree, list_opens}
use Rattle.theorem_export.proofs.Agreeing.{all_agree_with, records_same}

-- an export that is not refused: no primary is above 250, and it wrote the list
record Given (s : Plain) (e : Exported) : Type 0 where
  pub low : any_above250 s.meters ≡ false
  pub list : written e ≡ list_of s

export_wrote : (lent : List ℕ) (s : Plain) → (export_into_value lent s).number ≡ not_refused → Given s (export_into_value lent s)
unfolding export_into_value
export_wrote lent s =
    if_with (λ e. e.number ≡ not_refused → Given s e) (any_above250 s.meters) _ _ (λ high n. absurd (omega arith))
    (λ low. if_with (λ e. e.number ≡ not_refused → Given s e) (ltb (length lent) (length (list_of s))) _ _ (λ short n. absurd (omega arith))
    (λ room n. record { low = low; list = take-append_seam (list_of s) (drop (length (list_of s)) lent) }))

list_same : (s t : Plain) → s.baud ≡ t.baud → AllAgree s.meters t.meters → list_of s ≡ list_of t
unfolding list_of
list_same s t q a = rw (q, records_same t.baud s.meters t.meters a)

list_opens_again : (s : Plain) (practice : Bool) → Sound s → any_above250 s.meters ≡ false → OpensTo (list_of s) s.baud practice s.meters
unfolding list_of
list_opens_again s practice sound low =
    let listable = all_listable s.meters sound.meters low in
    record {
      bytes = bytes_each s.baud s.meters sound.few listable;
      opened = again s.baud practice s.meters;
      accepted = list_opens s.baud practice s.meters sound.baud sound.few listable;
      agree = again_agree s.baud practice s.meters listable;
    }

pub opens_again : OpensAgain
opens_again s lent practice left e = let w = export_wrote lent s e in rw w.list (list_opens_again s practice (left_sound s left) w.low)

pub equal_bytes : EqualBytes
equal_bytes s t lent lent₁ left left₁ q e f = (agree, same)
  where
    agree : written (export_into_value lent s) ≡ written (export_into_value lent₁ t) → AllAgree s.meters t.meters
    agree b =
        let ms = opens_again s lent false left e in
        let ns = opens_again t lent₁ false left₁ f in
        let z : ns.opened ≡ ms.opened = cc (b, q, ms.accepted, ns.accepted) in
        all_agree_with ms.opened s.meters t.meters ms.agree (rw z at ns.agree)

    same : AllAgree s.meters t.meters → written (export_into_value lent s) ≡ written (export_into_value lent₁ t)
    same a = (export_wrote lent s e).list ∙ list_same s t q a ∙ sym (export_wrote lent₁ t f).list
