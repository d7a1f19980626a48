use Rattle.runs.proofs.Figure.{first_at}
use Rattle.algebra.proofs.AlgebraLaws.{laws_of}
use Rattle.runs.proofs.first_tick_stands.Goals as goal

pub returns : goal.returns
returns g c chooses plan p e r N repeats =
    first_at _ (laws_of g.world g.met.V.Algebra) _ r N repeats (g.met.V.Algebra.chosen chooses)
