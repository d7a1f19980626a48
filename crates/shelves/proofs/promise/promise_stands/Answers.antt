use Rattle.shelves.proofs.Histories.{opening, promise}
use Rattle.algebra.proofs.AlgebraLaws.{laws_of}
use Rattle.shelves.proofs.promise.promise_stands.Goals as goal

pub returns : goal.returns
returns g c =
    let laws = laws_of g.world g.met.V.Algebra in
    let chosen = g.met.V.Algebra.chosen in
    record { opening = opening _ laws chosen; calls = promise _ laws chosen }
