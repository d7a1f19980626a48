use Rattle.std.proofs.Common.{ℕ, None, refl, ap, ◌∙◌, arith, rules}
use borrow.Author.Tests.{tests}
use Rattle.std.specs.List.{range_with_len}
use Rattle.std.specs.Option.{option_map}
use Rattle.std.proofs.lemmas.Iterator.{YieldsList-from_range, YieldsList-from_map_by}
use Rattle.std.proofs.lemmas.List.Folds.{fold-map}
use Rattle.algebra.specs.Coefficients.{join}
use Rattle.rows.specs.Pieces.{pause_at, exit_at}
use Rattle.rows.proofs.Folds.{fold_read, fold-range}
use Rattle.runs.specs.Joined.{joins}
use Rattle.shelves.specs.Told.{given}
use Rattle.shelves.proofs.telling.Shown.figure.Goals as goal

pub returns : goal.returns
returns g c =
    let m = g.V.Algebra.model in
    let f = g.V.Algebra.means in
    let rows = given m f c.args.self.now in
    let both = λ (n : ℕ). join m (pause_at rows n) (exit_at rows n) in
    let n = c.size.result in
    fold_read _ (option_map f) (join m) _ _ c.fold.ensures.ran
    (YieldsList-from_map_by _ (option_map f) both (YieldsList-from_range 0 n n c.map.ensures.source (omega arith)) c.map.ensures.closure (λ x r q k. search (rules, tests)))
    (λ a x b q k. search rules)
    ∙ fold-map (join m) both None (range_with_len 0 n)
    ∙ fold-range (λ b k. join m b (both k)) (joins m both) (λ k. refl) n
    ∙ ap (joins m both) c.size.ensures
