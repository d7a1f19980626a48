use Rattle.std.proofs.Common.{ℕ, ◌&&◌, is_some, refl, ap, ◌∙◌, arith, rules}
use borrow.Author.Tests.{tests}
use Rattle.std.proofs.lemmas.Iterator.{YieldsList-from_range}
use Rattle.std.proofs.lemmas.Iterator.Consumers.{YieldsList-from_filter}
use Rattle.rows.specs.Pieces.{rows_of, meanings, next_phase}
use Rattle.rows.specs.Sets.{has, image, with_member}
use Rattle.rows.proofs.Folds.{fold_read, fold_passing}
use Rattle.rows.proofs.piece.Piece.moved.Goals as goal

pub returns : goal.returns
returns g c =
    let f = g.V.Algebra.means in
    let rows = rows_of g.V.Algebra.model (meanings f c.args.kept.now.cells.now) c.args.self.now in
    let next = next_phase rows in
    let test = λ (k : ℕ). has c.args.set k && is_some (rows.p k) in
    let n = c.size.result in
    fold_read _ (λ s. s) (λ s k. with_member s (next k)) _ _ c.fold.ensures.ran
    (YieldsList-from_filter _ test (YieldsList-from_range 0 n n c.filter.ensures.source (omega arith)) c.filter.ensures.closure (λ x b q k. search (rules, tests)))
    (λ s x b q k. search rules)
    ∙ fold_passing test (λ s k. with_member s (next k)) (image test next) (λ k. refl) n
    ∙ ap (image test next) c.size.ensures
