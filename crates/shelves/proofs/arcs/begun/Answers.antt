use Rattle.std.proofs.Common.{◌≡◌, rules, Decides}
use Rattle.std.proofs.iter.runs.Made.{chains}
use Rattle.std.specs.List.{Any}
use Rattle.algebra.specs.declared.arc.Arc.{Arc}
use Rattle.shelves.proofs.Elements.{among_any}
use Rattle.shelves.proofs.arcs.begun.Goals as goal

pub returns : goal.returns
returns c =
    let any : Decides c.any.result (Any (λ (a : Arc). a.from ≡ c.args.state) c.args.arcs.now) = search (rules, chains) in
    among_any (λ (a : Arc). a.from ≡ c.args.state) c.args.arcs.now c.any.result any
