use Rattle.std.proofs.Common.{◌∙◌, rules}
use borrow.Author.Tests.{tests}
use Rattle.std.proofs.lemmas.Iterator.{YieldsList-from_slice}
use Rattle.std.proofs.lemmas.Iterator.Consumers.{YieldsList-from_filter}
use Rattle.algebra.specs.declared.arc.Arc.{Arc}
use Rattle.algebra.proofs.AlgebraLaws.{laws_of}
use Rattle.rows.specs.Gathered.{one, together, held}
use Rattle.rows.specs.Sets.{has}
use Rattle.rows.proofs.Folds.{fold_read}
use Rattle.rows.proofs.TableLaws.{fold_gathered}
use Rattle.rows.proofs.table.Gathered.with_all.Goals as goal

pub returns : goal.returns
returns g c =
    let m = g.V.Algebra.model in
    let arcs = c.args.arcs.now in
    let test = λ (a : Arc). has c.args.set a.from in
    fold_read _ (held m g.V.Algebra.means) (λ all arc. together m all (one m arc)) _ _ c.fold.ensures.ran
    (YieldsList-from_filter _ test (YieldsList-from_slice arcs (cc)) c.filter.ensures.closure (λ x b q k. search (rules, tests)))
    (λ s x b q k. search rules)
    ∙ fold_gathered m (laws_of g.world g.met.V.Algebra) test (held m g.V.Algebra.means c.args.self) arcs
