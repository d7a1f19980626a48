use Rattle.std.proofs.Common.{ap, ◌∙◌, rules}
use borrow.Author.Tests.{tests}
use Rattle.std.proofs.iter.runs.Sources.{range_listed_back}
use Rattle.rows.specs.Pieces.{meanings}
use Rattle.rows.specs.Search.{noted}
use Rattle.rows.proofs.Backwards.{down_from, last_passing}
use Rattle.rows.proofs.Shapes.{Same, least_transient_from}
use Rattle.rows.proofs.least.Room+V.least_transient.Goals as goal

pub returns : goal.returns
returns g c =
    let row = noted g.V.Algebra.model (meanings g.V.Algebra.means c.args.self.now.cells.now) in
    let i = c.args.i in
    let d = c.args.d in
    let found = c.find.ensures.runs in
    let run = found.0 in
    let source = c.rev.ensures.runs run run.seen found.1 in
    let listed = range_listed_back source.0 source.0.seen in
    let down = down_from run source.0 listed.0 listed.1 i (listed.2 ∙ ap (λ r. r.start) source.1) (listed.3 ∙ ap (λ r. r.end) source.1) listed.4 source.2.0.0 source.2.0.2 source.2.1 in
    let Is = Same row d in
    least_transient_from row i d c.map_or.result c.find.result
    (last_passing _ _ run i down (λ a r q k. search rules) (λ k. Is k → ⊥) Is (λ x k. search (rules, tests)) (λ x k. search (rules, tests)) c.find.result found.2)
    (search rules)
