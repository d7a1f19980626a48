use Rattle.std.proofs.Common.{◌∙◌}
use Rattle.rows.proofs.FillLaws.{both_filled}
use Rattle.rows.proofs.cells.Cells.fill.Goals as goal

pub returns : goal.returns
returns g c =
    let e = c.fill_row.ensures in
    let x = c.fill_row-2.ensures in
    record {
      same = x.same ∙ e.same;
      filled = both_filled c.args.self.now.lent.now c.fill_row.new.self.lent.now c.fill_row-2.new.self.lent.now c.args.place.shelf c.args.size c.min-size.result
          c.args.place.within c.min-size.ensures
          record { len = e.len; row = e.row; others = e.others }
          record { len = x.len; row = x.row; others = x.others };
    }
