use Rattle.std.proofs.Common.{ℕ, List, OnOk, subst}
use Rattle.std.specs.Io.KnownBytes.{Appends}
use Rattle.tick_list.proofs.Figures.{totals_from_records}
use Rattle.tick_list.proofs.listing.put_totals.Goals as goal

pub returns : goal.returns
returns g c =
    subst (λ (l : List ℕ). OnOk c.put_figures.result (Appends (g.W.Write.contents c.args.out.now) (g.W.Write.contents c.put_figures.new.out) l))
    (totals_from_records c.args.records.now _ c.weight-worst.result c.weight-best.result c.weight-ports.result c.count.ensures c.weight-worst.ensures c.weight-best.ensures c.weight-ports.ensures)
    c.put_figures.ensures
