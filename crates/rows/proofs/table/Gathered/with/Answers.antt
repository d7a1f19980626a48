use Rattle.std.proofs.Common.{Some, sym, ap, ◌∙◌}
use lib.Bits.{or_zero_r}
use Rattle.std.proofs.lemmas.Bool.{cond-false, le-ltb}
use Rattle.std.specs.Option.{option_map}
use Rattle.algebra.specs.Coefficients.{join}
use Rattle.algebra.proofs.Coefficients.{coef_laws}
use Rattle.rows.specs.Gathered.{together, held}
use Rattle.rows.proofs.TableLaws.{same_gathered}
use Rattle.algebra.proofs.AlgebraLaws.{laws_of}
use Rattle.rows.proofs.table.Gathered.with.Goals as goal

pub returns-else-arc-lt64 : goal.returns-else-arc-lt64
returns-else-arc-lt64 g c =
    let m = g.V.Algebra.model in
    let f = g.V.Algebra.means in
    let self = c.args.self in
    same_gathered
    (sym ((coef_laws m (laws_of g.world g.met.V.Algebra)).join_absent (option_map f self.stay)))
    (c.join-else-arc-lt64.ensures ∙ ap (λ w. join m (option_map f self.out) (Some w)) c.weigh.ensures)
    (sym (or_zero_r self.states))
    ∙ ap (together m (held m f self)) (sym (cond-false _ _ _ (le-ltb c.args.arc.to 64 c.if-arc-lt64.false)))
