use Rattle.std.proofs.Common.{take}
use Rattle.rows.proofs.Chaining.{past}
use Rattle.rows.proofs.TableLaws.{Along}
use Rattle.rows.proofs.linked.Linked.from_state.Given as goal

abbrev pub invariant-loop-next : goal.invariant-loop-next
invariant-loop-next g l = Along g.V.Algebra.model g.V.Algebra.means (take 1024 l.self.table.arcs.now) l.state l.initial.all l.next l.all

abbrev pub decreases-loop-next : goal.decreases-loop-next
decreases-loop-next g l = past l.next
