use Rattle.std.proofs.Common.{ℕ, false, ap, ◌∙◌}
use Rattle.rows.specs.Rules.Rule.{situation}
use Rattle.rows.proofs.TableLaws.{stay_of, out_of, states_of}
use Rattle.rows.proofs.linked.LinkedRowRule.look.Goals as goal

pub returns-clause-pause : goal.returns-clause-pause
returns-clause-pause g c =
    c.tick.ensures.pause ∙ ap (λ x. x.stay) c.follow.ensures ∙ stay_of g.V.Algebra.model c.args.s.set c.args.self.now.table.arcs.now

pub returns-clause-exit : goal.returns-clause-exit
returns-clause-exit g c =
    c.tick.ensures.exit ∙ ap (λ x. x.out) c.follow.ensures ∙ out_of g.V.Algebra.model c.args.s.set c.args.self.now.table.arcs.now

pub returns-clause-next : goal.returns-clause-next
returns-clause-next g c =
    c.tick.ensures.next
    ∙ ap (λ (set : ℕ). situation 0 0 set false false)
    (ap (λ x. x.states) c.follow.ensures ∙ states_of g.V.Algebra.model c.args.s.set c.args.self.now.table.arcs.now)
