use Rattle.std.proofs.Common.{refl, ap, ◌∙◌, arith}
use Rattle.std.specs.Option.{option_map}
use Rattle.rows.proofs.Unrolling.{means_below, means_at}
use Rattle.shelves.proofs.LeafRows.{fill_only, filled_blank}
use Rattle.shelves.proofs.leaves.blank.Goals as goal

pub returns : goal.returns
returns g c =
    let cells = c.args.cells.now.lent.now in
    let after = c.fill.new.self.lent.now in
    let k = c.args.place.shelf in
    let f = g.V.Algebra.means in
    record {
      blank = λ j of. means_below f after 2048 j (omega arith) ∙ means_at f after j ∙ ap (option_map f) (filled_blank cells after k c.fill.ensures.filled j of);
      only = fill_only cells cells after k 0 c.fill.ensures.filled c.args.place.within refl refl;
    }
