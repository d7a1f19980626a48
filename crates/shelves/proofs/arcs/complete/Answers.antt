use Rattle.std.proofs.Common.{rules, refl, arith}
use Rattle.std.proofs.lemmas.Bool.Decides.{Decides-like}
use Rattle.std.proofs.lemmas.Iterator.{cases_from_all, YieldsList-from_range}
use Rattle.shelves.specs.Questions.{Begins}
use Rattle.shelves.proofs.Elements.{below}
use Rattle.shelves.proofs.arcs.complete.Goals as goal
use borrow.Author.Tests.{tests}

pub returns : goal.returns
returns c =
    let begins = Begins c.args.arcs.now in
    let n = c.states.result in
    let asked = cases_from_all _ _ c.all.result begins (λ q. begins q → ⊥) c.all.ensures.ran (YieldsList-from_range 0 n n refl (omega arith)) (λ x q k. search (rules, tests)) (λ x q k. search (rules, tests)) in
    Decides-like c.all.result (λ all q h. all q ((c.states.ensures q).1 h)) (λ all q less. all q ((c.states.ensures q).0 less)) (below begins n c.all.result asked)
