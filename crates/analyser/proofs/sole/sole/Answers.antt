use Rattle.std.proofs.Common.{rules, tests}
use Rattle.shelves.specs.Held.{state_of}
use Rattle.analyser.proofs.Alone.{looked, none_found, one_found, two_found}
use Rattle.analyser.proofs.sole.sole.Goals as goal

pub returns-in_err-report : goal.returns-in_err-report
returns-in_err-report g c =
    let s = state_of g.V.Algebra.model g.V.Algebra.means c.args.rack.now.core in
    rw c.from_residual.ensures
    (none_found g.V.Algebra.model s g.V.Algebra.means _ c.filter_map-filled.result.f (λ k r q call. (search (rules, tests), search (rules, tests, looked)))
    c.filter_map-filled.result.iter c.next.new.self.iter c.next.new.self.f c.next.result c.filter_map-filled.ensures.source c.next.ensures.steps c.in_err-report.was)

pub returns-in-None : goal.returns-in-None
returns-in-None g c =
    let s = state_of g.V.Algebra.model g.V.Algebra.means c.args.rack.now.core in
    one_found g.V.Algebra.model s g.V.Algebra.means _ c.filter_map-filled.result.f (λ k r q call. (search (rules, tests), search (rules, tests, looked)))
    c.filter_map-filled.result.iter c.next.new.self.iter c.next.new.self.f c.next.result c.filter_map-filled.ensures.source c.next.ensures.steps c.in_ok-report.report c.in_ok-report.was
    c.next-2.new.self.iter c.next-2.new.self.f c.next-2.result c.next-2.ensures.steps c.in-None.is

pub returns-in-Some : goal.returns-in-Some
returns-in-Some g c =
    let s = state_of g.V.Algebra.model g.V.Algebra.means c.args.rack.now.core in
    two_found g.V.Algebra.model s g.V.Algebra.means _ c.filter_map-filled.result.f (λ k r q call. (search (rules, tests), search (rules, tests, looked)))
    c.filter_map-filled.result.iter c.next.new.self.iter c.next.new.self.f c.next.result c.filter_map-filled.ensures.source c.next.ensures.steps c.in_ok-report.report c.in_ok-report.was
    c.next-2.new.self.iter c.next-2.new.self.f c.next-2.result c.next-2.ensures.steps c.in-Some.field-0 c.in-Some.is
