-- `time_seconds::elapsed` meets its contract: a float of the format is above 0 just where `not_below0` keeps it, or it
-- is a zero, and +0 stands for it.
use mathlib.Core.Path.{◌≡◌, refl, sym, ap}
use mathlib.Core.Bool.{true, false, true≢false}
use Prim.Native.Nat.{zero, suc, ◌*◌, ◌^◌, ◌≤◌, ◌<◌}
use native.Mathlib.Nat.{mul-pos}
use native.Mathlib.Omega.{arith}
use lib.IntN.{ℤ, pos, negsuc}
use lib.Dec.{T, eqb→eq}
use lib.Ieee.{Float, nan, inf, fin, binary64, fits, up, down, lt, sub, of_bits}
use lib.Pow.{pow-lt}
use borrow.Author.Tests.{ltb-false}
use lib.Ieee.Fits.{up_pos, sub-fits}
use Rattle.time_seconds.specs.Seconds.{not_below0, elapsed_of_value}
use Rattle.time_seconds.proofs.elapsed.Goals as goal

-- a zero that fits is written with the exponent 0
zero_exponent : (e : ℤ) → up e * down e ≡ 1 → pos 0 ≡ e
zero_exponent (pos zero) h = refl
zero_exponent (pos (suc k)) h = let more : 2 ^ 0 < 2 ^ suc k = pow-lt {i = 0} {j = suc k} (omega arith) in absurd (omega arith)
zero_exponent (negsuc k) h = let more : 2 ^ 0 < 2 ^ suc k = pow-lt {i = 0} {j = suc k} (omega arith) in absurd (omega arith)

above : (x : Float) → lt (of_bits binary64 0) x ≡ true → x ≡ not_below0 x
unfolding lt of_bits not_below0
above nan h = absurd (true≢false (sym h))
above (inf true) h = absurd (true≢false (sym h))
above (inf false) h = refl
above (fin true m e) h = absurd (true≢false (sym h))
above (fin false m e) h = refl

not_above : (x : Float) → T (fits binary64 x) → lt (of_bits binary64 0) x ≡ false → of_bits binary64 0 ≡ not_below0 x
unfolding lt of_bits not_below0 fits
not_above nan f h = refl
not_above (inf true) f h = refl
not_above (inf false) f h = absurd (true≢false h)
not_above (fin true m e) f h = refl
not_above (fin false zero e) f h = ap (fin false 0) (zero_exponent e (eqb→eq (up e * down e) 1 f))
not_above (fin false (suc m) e) f h =
    let none : suc m * up e * 1 ≤ 0 * down e = ltb-false (0 * down e) (suc m * up e * 1) h in
    let some : 0 < suc m * up e = mul-pos (omega arith) (up_pos e) in
    absurd (omega arith)

pub returns-then-d : goal.returns-then-d
unfolding elapsed_of_value
returns-then-d c = above (sub binary64 c.args.now c.args.origin) c.if-d.true

pub returns-else-d : goal.returns-else-d
unfolding elapsed_of_value
returns-else-d c = not_above (sub binary64 c.args.now c.args.origin) (sub-fits binary64 c.args.now c.args.origin) c.if-d.false
