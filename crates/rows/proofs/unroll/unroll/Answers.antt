use Rattle.std.proofs.Common.{◌+◌, ◌≤◌, take, ap, ◌∙◌, inr, arith, rules}
use Rattle.std.proofs.lemmas.Option.{MatchOption-at_some}
use Rattle.rows.specs.Pieces.{meanings}
use Rattle.rows.specs.Rules.Rule.{rows}
use Rattle.rows.specs.Search.{noted}
use Rattle.rows.proofs.Unrolling.{apart, shape_of, agree_below, shelf_keeps, same_past, kept_below}
use Rattle.rows.proofs.unroll.unroll.Goals as goal

pub returns-in_err-turn : goal.returns-in_err-turn
returns-in_err-turn g c =
    let kept = c.walk.ensures.below in
    record {
      same = c.walk.ensures.same;
      only = record { others = λ j low out. agree_below _ _ 2048 kept j low; past = c.walk.ensures.past };
      cases = search (rules, kept);
    }

pub returns-then-transient-period-gt64 : goal.returns-then-transient-period-gt64
returns-then-transient-period-gt64 g c =
    let m = g.V.Algebra.model in
    let f = g.V.Algebra.means in
    let rule = g.R.RowRule.works c.args.rule.now m (meanings f (take 2048 c.args.cells.now.lent.now)) in
    let kept = c.walk.ensures.below in
    let turn = MatchOption-at_some _ _ _ c.in_ok-turn.ensures.ok_part c.walk.ensures.cases in
    let number = c.in_ok-turn.turn.number in
    let earlier = c.in_ok-turn.turn.earlier in
    let order = c.in_ok-turn.turn.order in
    record {
      same = c.walk.ensures.same;
      only = record { others = λ j low out. agree_below _ _ 2048 kept j low; past = c.walk.ensures.past };
      cases = (
        record {
          reply = number;
          transient = c.least_transient-transient.result;
          period = c.least_period-period.result;
          soon = c.in_ok-turn.turn.soon;
          first = record { earlier = (earlier, order, turn.0); fresh = turn.1 };
          least = shape_of {m = m} rule (noted m (meanings f c.room-noted.result.cells.now)) earlier number _ _ order turn.0
              (λ k less. ap (λ xs. noted m (meanings f xs) k) c.room-noted.ensures ∙ turn.2 k less) c.least_period-period.ensures c.least_transient-transient.ensures;
          long = c.if-transient-period-gt64.true;
        },
        kept,
      );
    }

pub returns : goal.returns
returns g c =
    let m = g.V.Algebra.model in
    let f = g.V.Algebra.means in
    let rule = g.R.RowRule.works c.args.rule.now m (meanings f (take 2048 c.args.cells.now.lent.now)) in
    let kept = c.walk.ensures.below in
    let turn = MatchOption-at_some _ _ _ c.in_ok-turn.ensures.ok_part c.walk.ensures.cases in
    let number = c.in_ok-turn.turn.number in
    let earlier = c.in_ok-turn.turn.earlier in
    let order = c.in_ok-turn.turn.order in
    let before = c.walk.new.cells.lent.now in
    let after = c.fill.new.self.lent.now in
    let shelf = c.args.place.shelf in
    let t = c.least_transient-transient.result in
    let d = c.least_period-period.result in
    let filled = c.fill.ensures.filled in
    let least = shape_of {m = m} rule (noted m (meanings f c.room-noted.result.cells.now)) earlier number d t order turn.0
    (λ k less. ap (λ xs. noted m (meanings f xs) k) c.room-noted.ensures ∙ turn.2 k less) c.least_period-period.ensures c.least_transient-transient.ensures in
    let few : t + d ≤ number = omega (arith, order) in
    record {
      same = c.fill.ensures.same ∙ c.walk.ensures.same;
      only = record {
        others = λ j low out. filled.others j (apart shelf j out) ∙ agree_below _ _ 2048 kept j low;
        past = same_past after before 4096 filled.len (λ j far. filled.others j (inr (omega arith))) ∙ c.walk.ensures.past;
      };
      cases = record {
        soon = c.in_ok-turn.turn.soon;
        first = record { earlier = (earlier, order, turn.0); fresh = turn.1 };
        keeps = kept_below m f _ after shelf t d (omega arith)
            c.if-transient-period-gt64.false
            (shelf_keeps m f (rows rule) before after shelf t d number filled c.if-transient-period-gt64.false few turn.2 least);
      };
    }
