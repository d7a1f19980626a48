use Rattle.std.proofs.lemmas.Nat.{leading_length}
use Rattle.std.proofs.Common.{◌≡◌, ℕ, ◌-◌, ◌^◌, ◌<◌, eqb, take, fold, filter, refl, ap, ◌∙◌, subst, arith, rules}
use Rattle.std.specs.Int.Count.{count_leading_zeros}
use Rattle.std.specs.List.{range_with_len}
use borrow.Author.Tests.{tests}
use Rattle.std.proofs.lemmas.Iterator.{YieldsList-from_range}
use Rattle.std.proofs.lemmas.Iterator.Consumers.{YieldsList-from_filter}
use Rattle.rows.specs.Gathered.{Gathered, together, gathered, held}
use Rattle.rows.specs.Sets.{has}
use Rattle.rows.proofs.Folds.{fold_read, fold_passing}
use Rattle.rows.proofs.TableLaws.{over_states, state_by_state}
use Rattle.algebra.proofs.AlgebraLaws.{laws_of}
use Rattle.rows.proofs.linked.Linked.chained.Goals as goal

pub returns : goal.returns
returns g c =
    let m = g.V.Algebra.model in
    let set = c.args.set in
    let xs = take 1024 c.args.self.now.table.arcs.now in
    let n = 64 - count_leading_zeros 64 set in
    let long = leading_length 64 set (search rules) in
    let most : long.0 ≡ n = omega (arith, long.1) in
    let below : set < 2 ^ n = subst (λ (k : ℕ). set < 2 ^ k) most long.2 in
    let of = λ (q : ℕ). gathered m (λ a. eqb a.from q) xs in
    let step = λ (all : Gathered m) (q : ℕ). together m all (of q) in
    fold_read _ (held m g.V.Algebra.means) step _ _ c.fold.ensures.ran
    (YieldsList-from_filter _ (has set) (YieldsList-from_range 0 n n c.filter.ensures.source (omega arith)) c.filter.ensures.closure (λ x b q k. search (rules, tests)))
    (λ s x b q k. search rules)
    ∙ ap (λ start. fold step start (filter (has set) (range_with_len 0 n))) c.nothing.ensures
    ∙ fold_passing (has set) step (over_states m set of) (λ k. refl) n
    ∙ state_by_state m (laws_of g.world g.met.V.Algebra) set n below xs
