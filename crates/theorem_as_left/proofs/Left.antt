-- Every segment that calls reach is sound; one call more reaches one.
use mathlib.Core.Path.{◌≡◌, refl, ap, subst, ◌∙◌}
use mathlib.Core.List.{List, [], ◌∷◌, ◌++◌}
use native.Mathlib.Omega.{arith}
use Rattle.laws.specs.Words.{Every}
use Rattle.laws.proofs.Lists.{every_append}
use Rattle.frame.proofs.Worked.{of_nothing}
use Rattle.meter.specs.Meter.{rates}
use Rattle.list_open.specs.Opening.{capacity}
use Rattle.segment.specs.Plain.{Plain, blank}
use Rattle.theorem_calls.specs.Call.{Call, after_call, after_calls}
use Rattle.theorem_calls.specs.Fit.{FitCall}
use Rattle.theorem_as_left.specs.Left.{Sound, LeftSound, LeftByOneMore}
use Rattle.theorem_as_left.proofs.CallsKeep.{after_sound}

blank_sound : Sound blank
unfolding blank rates capacity
blank_sound = record { baud = refl; waits = (1, of_nothing); queued = omega arith; few = omega arith; meters = tt }

all_sound : (cs : List Call) (s : Plain) → Every FitCall cs → Sound s → Sound (after_calls cs s)
unfolding after_calls
all_sound [] s f h = h
all_sound (c ∷ cs) s f h = all_sound cs (after_call c s) f.1 (after_sound c s f.0 h)

after_one_more : (cs : List Call) (c : Call) (s : Plain) → after_calls (cs ++ c ∷ []) s ≡ after_call c (after_calls cs s)
unfolding after_calls
after_one_more [] c s = refl
after_one_more (d ∷ cs) c s = after_one_more cs c (after_call d s)

pub left_by_one_more : LeftByOneMore
left_by_one_more c s f l =
    record {
      calls = l.calls ++ c ∷ [];
      fit = every_append FitCall l.calls (c ∷ []) l.fit (f, tt);
      left = after_one_more l.calls c blank ∙ ap (after_call c) l.left;
    }

pub left_sound : LeftSound
left_sound s l = subst Sound l.left (all_sound l.calls blank l.fit blank_sound)
