use Rattle.algebra.proofs.Coefficients.{coef_laws}
use Rattle.algebra.proofs.AlgebraLaws.{laws_of}
use Rattle.algebra.proofs.coefficient.laws_stand.Goals as goal

pub returns : goal.returns
returns g c =
    let laws = laws_of g.world g.met.V.Algebra in
    record { algebra = laws; coefficients = coef_laws _ laws }
