use Rattle.runs.proofs.Figure.{covers}
use Rattle.algebra.proofs.AlgebraLaws.{laws_of}
use Rattle.runs.proofs.figure_stands.Goals as goal

pub returns : goal.returns
returns g c plan p e r N repeats =
    covers _ (laws_of g.world g.met.V.Algebra) _ r N repeats
