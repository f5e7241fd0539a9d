use mathlib.Core.Path.{◌≡◌}
use Prim.Native.Nat.{◌≤◌}
use lib.ListN.{length, take}
use Rattle.laws.specs.Words.{Every}
use Rattle.segment_image.specs.Image.{decode_image}
use Rattle.search.specs.ProgramPacking.{key_of_value, mark_of_value, Bounded}
use Rattle.search.proofs.PackLaws.{Mapped}
use Rattle.search.proofs.pack.packed_of.Given as goal

-- the first i meters are packed
abbrev pub invariant-loop-i : goal.invariant-loop-i
invariant-loop-i l = let s = decode_image l.image in record {
  few : l.i-end ≤ 64;
  end : l.i-end ≡ length s.meters;
  places : (length l.initial.keys ≡ 64) × (length l.initial.marks ≡ 64);
  keys : Mapped key_of_value l.initial.keys s.meters l.i l.keys;
  marks : Mapped (mark_of_value s.baud) l.initial.marks s.meters l.i l.marks;
  bounded : Every Bounded (take l.i s.meters);
}
