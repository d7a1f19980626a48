use Rattle.shelves.specs.History.{Fresh}
use Rattle.algebra.proofs.AlgebraLaws.{laws_of}
use Rattle.shelves.proofs.Histories.{opening}
use Rattle.shelves.proofs.Unchanged.{blank_mean, same_length}
use Rattle.shelves.proofs.opening.open.Goals as goal

pub returns : goal.returns
returns g c =
    let m = g.V.Algebra.model in
    let fresh : Fresh m _ = record {
      cells = blank_mean g.V.Algebra.means c.wipe.new.self.lent.now c.wipe.ensures.blank;
      shelves = c.new.ensures;
      steps = c.new-2.ensures;
      arcs = c.new-3.ensures;
    } in
    record {
      blank = c.wipe.ensures.blank;
      past = c.wipe.ensures.past;
      lent = same_length 4096 c.args.cells.now c.wipe.new.self.lent.now c.requires c.wipe.new.self.room c.wipe.ensures.past;
      fresh = fresh;
      promise = opening m (laws_of g.world g.met.V.Algebra) g.met.V.Algebra.chosen _ fresh;
    }
