use mathlib.Core.Path.{◌≡◌, sym, ap, ap₂, subst, ◌∙◌}
use mathlib.Core.Bool.{true, ◌||◌}
use Prim.Native.Nat.{◌*◌}
use mathlib.Core.List.{[], ◌∷◌}
use lib.Bits.{bit_and}
use Rattle.std.proofs.Common.{w32}
use Rattle.laws.proofs.Lists.{four}
use Rattle.numbers.proofs.LeBytes.{number_bytes}
use Rattle.numbers.specs.Number.{number}
use Rattle.meter_identity.specs.Identity.{digits_of_value}
use Rattle.meter_select.specs.Matching.{id_matches_value}
use Rattle.meter_concern.specs.ProgramSeeking.{Seeks}
use Rattle.meter_concern.proofs.SeekLaws.{known_bytes, seeks_as, seeks_mask, seeks_selected, few_none}
use borrow.Author.Rules.{rules}
use Rattle.meter_concern.proofs.by_id.Goals as goal

pub returns-then-data-lt8 : goal.returns-then-data-lt8
returns-then-data-lt8 c = seeks_as (few_none c.args.«data».now c.if-data-lt8.true) seeks_selected

pub returns : goal.returns
returns c =
    let d = c.args.«data».now in
    let m = c.from_le_bytes-mask.result in
    let mask : m ≡ number 4 0 (known_bytes d) =
    c.from_le_bytes-mask.ensures
    ∙ number_bytes w32 (c.known.result ∷ c.known-2.result ∷ c.known-3.result ∷ c.known-4.result ∷ [])
    ∙ rw (c.known.ensures, c.known-2.ensures, c.known-3.ensures, c.known-4.ensures) in
    let want : c.from_le_bytes.result ≡ number 4 0 (four d) = c.from_le_bytes.ensures ∙ number_bytes w32 (four d) in
    subst (Seeks (λ p s i. s || id_matches_value d (digits_of_value i)))
    (ap₂ (λ x y. record { selected = true; mask = x; want = y }) (sym c.behind_primary.ensures) (ap (λ w. 256 * bit_and w m) (sym want) ∙ sym c.behind_primary-2.ensures))
    (seeks_mask d c.if-data-lt8.false (λ i. (c.type_inv.«data» i).fits) m mask (search rules))
