use Rattle.std.proofs.Common.{[], ◌∷◌, map, refl, rules}
use mathlib.Core.List.{map-append}
use Rattle.std.proofs.lemmas.Iterator.{YieldsList-from_slice}
use Rattle.program.proofs.Sums.{added_over}
use Rattle.program.proofs.weights.add_arcs.Goals as goal

pub returns : goal.returns
returns g c =
    added_over g.V.Algebra.model _ g.V.Algebra.means (map (λ a. a.label)) (λ a. a.label ∷ []) _ _ c.fold.ensures.ran
    (YieldsList-from_slice c.args.arcs.now cc) refl (λ ys y. map-append (λ a. a.label) ys (y ∷ [])) (λ a x b q k. search rules)
