use Rattle.std.proofs.Common.{refl, ap, ◌∙◌, arith, rules}
use borrow.Author.Tests.{tests}
use Rattle.std.specs.Option.{option_map}
use Rattle.std.proofs.lemmas.Iterator.{YieldsList-from_range}
use Rattle.std.proofs.lemmas.Iterator.Consumers.{YieldsList-from_filter}
use Rattle.algebra.specs.Coefficients.{join}
use Rattle.rows.specs.Pieces.{rows_of, meanings, row}
use Rattle.rows.specs.Sets.{has, joins}
use Rattle.rows.proofs.Folds.{fold_read, fold_passing}
use Rattle.rows.proofs.piece.Piece.over.Goals as goal

pub returns : goal.returns
returns g c =
    let m = g.V.Algebra.model in
    let f = g.V.Algebra.means in
    let r = row (rows_of m (meanings f c.args.kept.now.cells.now) c.args.self.now) c.args.row in
    let n = c.size.result in
    fold_read _ (option_map f) (λ a k. join m a (r k)) _ _ c.fold.ensures.ran
    (YieldsList-from_filter _ (has c.args.set) (YieldsList-from_range 0 n n c.filter.ensures.source (omega arith)) c.filter.ensures.closure (λ x b q k. search (rules, tests)))
    (λ a x b q k. search rules)
    ∙ fold_passing (has c.args.set) (λ a k. join m a (r k)) (joins m (has c.args.set) r) (λ k. refl) n
    ∙ ap (joins m (has c.args.set) r) c.size.ensures
