use Rattle.std.proofs.Common.{[], take, subst}
use Rattle.rows.specs.Pieces.{Rows, meanings, on_shelf}
use Rattle.rows.specs.Rules.Loop.{loop}
use Rattle.runs.specs.declared.step.Step.TheVariants.{Repeat}
use Rattle.shelves.specs.Held.{state_of}
use Rattle.shelves.specs.Stops.{Built}
use Rattle.shelves.proofs.composing.put_loop.Goals as goal

pub returns : goal.returns
returns g c =
    let m = g.V.Algebra.model in
    let f = g.V.Algebra.means in
    let core = c.args.core.now in
    let cells = meanings f (take 2048 core.cells.lent.now) in
    let a = c.piece-a.ensures in
    subst (λ (A : Rows m). Built m (loop m A) c.args.of.place.shelf (Repeat c.args.of.step) [] (state_of m f core) (state_of m f c.build.new.core) c.build.result)
    (λ i. on_shelf m cells (a.place i).shelf (a.transient i) (a.period i)) c.build.ensures.does
