use Rattle.std.proofs.Common.{set, refl, ap, ◌∙◌}
use Rattle.rows.specs.Pieces.{meanings}
use Rattle.rows.specs.Filled.{OfShelf}
use Rattle.shelves.specs.Tables.{shelves_of}
use Rattle.shelves.proofs.Unchanged.{others_mean, same_length}
use Rattle.shelves.proofs.building.empty.Goals as goal

pub returns : goal.returns
returns g c =
    let core = c.args.core.now in
    let after = c.blank.new.cells in
    let wrote = c.blank.ensures.only in
    record {
      blank = c.blank.ensures.blank;
      others = others_mean g.V.Algebra.means (OfShelf c.args.place.shelf) core.cells.lent.now after.lent.now wrote.others;
      shelves = c.put.ensures ∙ ap (set (shelves_of core.shelves) c.args.place.shelf) c.empty.ensures;
      steps = refl;
      arcs = refl;
      lent = same_length 4096 core.cells.lent.now after.lent.now core.cells.room after.room wrote.past;
      past = ap (meanings g.V.Algebra.means) wrote.past;
    }
