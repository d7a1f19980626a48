use Rattle.std.proofs.Common.{length, vec_items}
use Rattle.program.proofs.Turns.{Sofar}
use Rattle.program.proofs.file.list.Given as goal

abbrev pub invariant-loop-left : goal.invariant-loop-left
invariant-loop-left l = Sofar l.bytes (vec_items l.records) l.left

abbrev pub decreases-loop-left : goal.decreases-loop-left
decreases-loop-left l = length l.left
