use Rattle.std.proofs.Common.{◌-◌, refl, rules}
use borrow.Author.Tests.{tests}
use Rattle.std.proofs.lemmas.Iterator.{cases_from_all, YieldsList-from_range}
use Rattle.rows.specs.Pieces.{meanings}
use Rattle.rows.specs.Search.{noted}
use Rattle.rows.proofs.Shapes.{Back, back_decides}
use Rattle.rows.proofs.least.Room+V.round_has.Goals as goal

pub returns : goal.returns
returns g c =
    let row = noted g.V.Algebra.model (meanings g.V.Algebra.means c.args.self.now.cells.now) in
    let i = c.args.turn.earlier in
    let n = c.args.turn.number in
    let Same = Back row i n c.args.d in
    back_decides row i n c.args.d c.all.result
    (cases_from_all _ _ _ Same (λ k. Same k → ⊥) c.all.ensures.ran (YieldsList-from_range i n (n - i) refl refl) (λ x q k. search (rules, tests)) (λ x q k. search (rules, tests)))
