use Rattle.std.proofs.Common.{subst, sym, rules}
use borrow.Author.Tests.{tests}
use Rattle.std.proofs.lemmas.Iterator.{first_from_Range}
use Rattle.rows.specs.Pieces.{meanings}
use Rattle.rows.specs.Search.{noted, LeastPeriod}
use Rattle.rows.proofs.Shapes.{Period, least_period_from}
use Rattle.rows.proofs.least.Room+V.least_period.Goals as goal

pub returns : goal.returns
returns g c =
    let row = noted g.V.Algebra.model (meanings g.V.Algebra.means c.args.self.now.cells.now) in
    let i = c.args.turn.earlier in
    let n = c.args.turn.number in
    let Has = Period row i n in
    subst (LeastPeriod row i n) (sym c.unwrap_or.ensures)
    (least_period_from row i n c.args.turn.order c.find.result
    (first_from_Range _ _ _ _ Has (λ d. Has d → ⊥) c.find.ensures.ran (λ x q k. search (rules, tests)) (λ x q k. search (rules, tests))))
