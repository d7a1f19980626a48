use Rattle.std.proofs.Common.{ap, ◌∙◌}
use Rattle.algebra.specs.declared.arc.Arc.{Arc}
use Rattle.algebra.proofs.AlgebraLaws.{laws_of}
use Rattle.rows.specs.Gathered.{together, gathered}
use Rattle.rows.specs.Sets.{has}
use Rattle.rows.proofs.TableLaws.{nothing_and}
use Rattle.rows.proofs.table.Table.follow.Goals as goal

pub returns : goal.returns
returns g c =
    let m = g.V.Algebra.model in
    let all = gathered m (λ (a : Arc). has c.args.set a.from) c.args.self.now.arcs.now in
    c.with_all.ensures ∙ ap (λ x. together m x all) c.nothing.ensures ∙ nothing_and m (laws_of g.world g.met.V.Algebra) all
