use Rattle.std.proofs.Common.{map, take, ap, ◌∙◌}
use Rattle.std.proofs.lemmas.List.{take_all}
use Rattle.rows.proofs.TableLaws.{first_arcs}
use Rattle.rows.proofs.linked.Linked.new.Goals as goal

pub invariant_of-result : goal.invariant_of-result
invariant_of-result c =
    let arcs = c.args.arcs.now in
    let all = take c.min.result arcs in
    record {
      keyed = c.loop-arc.invariant ∙ ap (map (λ a. a.from)) (take_all c.loop-arc.arc-index all c.loop-arc-test.false ∙ first_arcs 1024 arcs c.min.ensures);
    }
