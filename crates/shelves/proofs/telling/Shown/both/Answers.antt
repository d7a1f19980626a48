use Rattle.shelves.specs.Told.{given}
use Rattle.shelves.proofs.Reaching.{both_at}
use Rattle.shelves.proofs.telling.Shown.both.Goals as goal

pub returns : goal.returns
returns g c =
    let m = g.V.Algebra.model in
    both_at m (given m g.V.Algebra.means c.args.self.now) c.args.k c.requires _ _ _ c.join.ensures c.at.ensures c.at-2.ensures
