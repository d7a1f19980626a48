use Rattle.std.proofs.Common.{Some, None, refl, arith}
use Rattle.shelves.specs.Effects.{pause_row}
use Rattle.shelves.proofs.LeafRows.{pause_shape, noting_none, noting_more, noting_kept, fill_only}
use Rattle.shelves.proofs.leaves.write_pause.Goals as goal

pub returns : goal.returns
returns g c =
    let m = g.V.Algebra.model in
    let f = g.V.Algebra.means in
    let row = pause_row m c.args.label in
    let cells = c.args.cells.now.lent.now in
    let one = noting_more m f row cells 0 cells c.note.new.self.lent.now _ _ c.args.cells.now.room (omega arith) (noting_none m f row cells) c.note.ensures.noted (λ i. (Some (c.weigh.ensures i), None)) in
    let two = noting_more m f row cells 1 c.note.new.self.lent.now c.note-2.new.self.lent.now _ _ c.args.cells.now.room (omega arith) one c.note-2.ensures.noted (λ i. (None, Some (c.unit.ensures i))) in
    let three = noting_more m f row cells 2 c.note-2.new.self.lent.now c.note-3.new.self.lent.now _ _ c.args.cells.now.room (omega arith) two c.note-3.ensures.noted refl in
    record {
      keeps = noting_kept m f row cells 2 1 c.note-3.new.self.lent.now c.fill.new.self.lent.now c.args.place.shelf c.args.cells.now.room c.args.place.within (omega arith) three c.fill.ensures.filled (pause_shape m c.args.label);
      only = fill_only cells c.note-3.new.self.lent.now c.fill.new.self.lent.now c.args.place.shelf 3 c.fill.ensures.filled c.args.place.within three.below three.past;
    }
