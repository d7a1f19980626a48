use Rattle.rows.proofs.Seeking.{Ahead}
use Rattle.rows.proofs.situations.Situations.find.Given as goal

abbrev pub invariant-loop : goal.invariant-loop
invariant-loop g l = Ahead l.self.noted.items l.s l.next
