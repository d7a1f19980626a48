use Rattle.std.proofs.Common.{arith}
use Rattle.shelves.specs.Effects.{node_row}
use Rattle.shelves.proofs.Settled.{settled}
use Rattle.shelves.proofs.building.put_node.Goals as goal

pub returns : goal.returns
returns g c =
    let m = g.V.Algebra.model in
    let wrote = c.write_node.ensures in
    let noted = c.settle.ensures in
    settled m g.V.Algebra.means (node_row m c.args.label) c.args.place.shelf 1 1 _ c.args.core.now c.settle.new.core c.write_node.new.cells (omega arith) wrote.keeps wrote.only noted.cells noted.shelves noted.steps noted.arcs
