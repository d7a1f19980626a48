use Rattle.std.proofs.Common.{drop, take, sym, ap, ◌∙◌}
use Rattle.std.proofs.lemmas.List.{take-append-drop, take_rest}
use Rattle.algebra.specs.declared.arc.Arc.{Arc}
use Rattle.algebra.proofs.AlgebraLaws.{laws_of}
use Rattle.rows.specs.Gathered.{together, gathered, held}
use Rattle.rows.specs.Sets.{has}
use Rattle.rows.proofs.TableLaws.{gathered-append, first_arcs}
use Rattle.rows.proofs.linked.Linked.follow.Goals as goal

pub returns : goal.returns
returns g c =
    let m = g.V.Algebra.model in
    let arcs = c.args.self.now.table.arcs.now in
    let test = λ (a : Arc). has c.args.set a.from in
    let n = c.min.result in
    c.with_all.ensures
    ∙ ap (λ xs. together m (held m g.V.Algebra.means c.chained.result) (gathered m test xs)) (take_rest arcs n)
    ∙ ap (λ x. together m x (gathered m test (drop n arcs))) (c.chained.ensures ∙ ap (gathered m test) (sym (first_arcs 1024 arcs c.min.ensures)))
    ∙ sym (gathered-append m (laws_of g.world g.met.V.Algebra) test (take n arcs) (drop n arcs))
    ∙ ap (gathered m test) (take-append-drop n arcs)
