use Rattle.runs.proofs.Joined.{unique}
use Rattle.algebra.proofs.AlgebraLaws.{laws_of}
use Rattle.runs.proofs.rows_are_one.Goals as goal

pub returns : goal.returns
returns g c plan p e p' e' r s n =
    let laws = laws_of g.world g.met.V.Algebra in
    (unique _ laws (r.pauses n) (s.pauses n), unique _ laws (r.leaves n) (s.leaves n))
