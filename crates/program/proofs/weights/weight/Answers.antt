use Rattle.std.proofs.Common.{refl, ap, ◌∙◌, rules}
use Rattle.std.proofs.lemmas.Iterator.{YieldsList-from_slice}
use Rattle.program.specs.Entries.{entry}
use Rattle.program.specs.Weights.{labels, all_labels, added}
use Rattle.program.proofs.Sums.{added_over, labels_more}
use Rattle.program.proofs.weights.weight.Goals as goal

pub returns : goal.returns
returns g c =
    let m = g.V.Algebra.model in
    added_over m _ g.V.Algebra.means all_labels (λ r. labels (entry r)) _ _ c.fold.ensures.ran
    (YieldsList-from_slice c.args.records.now cc) refl labels_more (λ a x b q k. search rules)
    ∙ ap (λ x. added m x (all_labels c.args.records.now)) c.unit.ensures
