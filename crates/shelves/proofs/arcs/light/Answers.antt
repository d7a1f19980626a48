use Rattle.std.proofs.Common.{rules, Decides}
use Rattle.std.proofs.ByRecursion.{All-map}
use Rattle.std.proofs.iter.runs.Made.{chains}
use Rattle.std.proofs.lemmas.Bool.Decides.{Decides-like}
use Rattle.std.proofs.lemmas.List.Elements.{All-from_recursion, recursion_from_All}
use Rattle.std.specs.List.{All}
use Rattle.algebra.specs.declared.arc.Arc.{Arc}
use Rattle.shelves.specs.Questions.{Light}
use Rattle.shelves.proofs.Elements.{unmapped}
use Rattle.shelves.proofs.arcs.light.Goals as goal

pub returns : goal.returns
returns c =
    let arcs = c.args.arcs.now in
    let LightArc = λ (a : Arc). Light a.label in
    let each : Decides c.all.result (All LightArc arcs) = search (rules, chains) in
    Decides-like c.all.result
    (λ all. All-map Light (λ a. a.label) arcs (recursion_from_All LightArc arcs all))
    (λ all. All-from_recursion LightArc arcs (unmapped Light (λ a. a.label) arcs all)) each
