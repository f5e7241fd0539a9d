use Rattle.std.proofs.Common.{◌≡◌, length}
use Rattle.segment_replies.specs.ProgramJoining.{Overlays}
use Rattle.segment_replies.proofs.overlay.Given as goal

abbrev pub invariant-loop-i : goal.invariant-loop-i
invariant-loop-i l = length l.initial.joined ≡ 96 → Overlays l.initial.joined l.reply.bytes l.i l.joined
