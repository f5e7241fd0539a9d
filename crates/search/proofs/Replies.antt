-- A mark whose reply is good, by the fault and the readouts that it has; what a telegram leaves of a meter that
-- replies; no reply.
use Rattle.std.specs.Prelude.{if◌then◌else◌}
use mathlib.Core.Path.{◌≡◌, refl, ap, ap₂, ◌∙◌}
use mathlib.Core.Bool.{Bool, true, false, ◌&&◌, ◌||◌, not}
use mathlib.Core.List.{List, []}
use Prim.Native.Nat.{ℕ, zero, suc, ◌/◌, ◌%◌, ◌≤◌}
use native.Mathlib.Omega.{arith}
use lib.Dec.{eqb, leb, ltb}
use borrow.Author.Tests.{leb-true, leb-false, lt-ltb, le-ltb}
use Rattle.frame.specs.Frame.{parse}
use Rattle.meter.specs.PlainMeter.{PlainMeter}
use Rattle.meter.specs.declared.Fault.{Fault}
use Rattle.meter.specs.declared.Fault.TheVariants.{None, Checksum, Truncated, Busy, WrongAddress, Flaky, TooMany}
use Rattle.meter.specs.Meter.{with_hears_next, flaky, offered}
use Rattle.search_walk.specs.Walk.{mute, entry_of}
use Rattle.search_walk.specs.Entries.{fails_by}
use Rattle.search_packed.specs.ProgramMarks.{readable}
use Rattle.search.specs.ProgramPacking.{on}
use Rattle.search.proofs.MarkLaws.{never_read, too_many_value, Bits}

not_on : (x : ℕ) → x ≤ 1 → eqb x 0 ≡ not (on x)
not_on zero h = refl
not_on (suc zero) h = refl
not_on (suc (suc x)) h = absurd (omega arith)

pub readable-is : (f : Fault) (s : ℕ) → Bits f s → readable s ≡ not (fails_by f (s / 256 % 256))
unfolding readable
readable-is f s k =
    ap₂ (λ x y. x && (y || ltb (s / 256 % 256) 2)) (not_on (s / 64 % 2) (omega arith) ∙ ap not k.never) (not_on (s / 128 % 2) (omega arith) ∙ ap not k.many)
    ∙ by f
  where
    by : (f : Fault) → (not (never_read f) && (not (too_many_value f) || ltb (s / 256 % 256) 2)) ≡ not (fails_by f (s / 256 % 256))
    by None = refl
    by Checksum = refl
    by Truncated = refl
    by Busy = refl
    by WrongAddress = refl
    by Flaky = refl
    by TooMany = go (leb 2 (s / 256 % 256)) refl
      where
        go : (b : Bool) → leb 2 (s / 256 % 256) ≡ b → ltb (s / 256 % 256) 2 ≡ not b
        go true e = le-ltb (s / 256 % 256) 2 (leb-true 2 (s / 256 % 256) e)
        go false e = lt-ltb (s / 256 % 256) 2 (omega (arith, leb-false 2 (s / 256 % 256) e))

pub offered-parts : (n : PlainMeter) → ((offered n).digits ≡ n.digits) × ((offered n).fault ≡ n.fault) × ((offered n).readouts ≡ n.readouts)
unfolding offered
offered-parts n = go (flaky n.fault)
  where
    go : (b : Bool) → let q = (if b then with_hears_next (not n.hears_next) n else n) in (q.digits ≡ n.digits) × (q.fault ≡ n.fault) × (q.readouts ≡ n.readouts)
    go true = (refl, refl, refl)
    go false = (refl, refl, refl)

pub entry_none : (p : List ℕ) → entry_of p [] ≡ mute p
unfolding entry_of parse
entry_none p = refl
