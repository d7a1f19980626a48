use Rattle.std.proofs.Common.{arith}
use Rattle.shelves.specs.Effects.{pause_row}
use Rattle.shelves.proofs.Settled.{settled}
use Rattle.shelves.proofs.building.put_pause.Goals as goal

pub returns : goal.returns
returns g c =
    let m = g.V.Algebra.model in
    let wrote = c.write_pause.ensures in
    let noted = c.settle.ensures in
    settled m g.V.Algebra.means (pause_row m c.args.label) c.args.place.shelf 2 1 _ c.args.core.now c.settle.new.core c.write_pause.new.cells (omega arith) wrote.keeps wrote.only noted.cells noted.shelves noted.steps noted.arcs
