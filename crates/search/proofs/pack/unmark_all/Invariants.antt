use mathlib.Core.Path.{◌≡◌}
use Prim.Native.Nat.{◌≤◌}
use lib.ListN.{length}
use Rattle.segment_image.specs.Image.{decode_image}
use Rattle.search.proofs.PackLaws.{Unmarked}
use Rattle.search.proofs.pack.unmark_all.Given as goal

-- the first i meters are as their marks have them
abbrev pub invariant-loop-i : goal.invariant-loop-i
invariant-loop-i l = record {
  few : l.i-end ≤ 64;
  end : l.i-end ≡ length (decode_image l.initial.image).meters;
  places : length l.marks ≡ 64;
  unmarked : Unmarked l.marks l.initial.image l.i l.image;
}
