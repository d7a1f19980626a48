use Rattle.std.proofs.Common.{◌≡◌, ℕ, ◌≤◌, get_or, length, ap, sym, ◌∙◌, subst, false, rules}
use Rattle.rows.specs.Chains.{keys, newest}
use Rattle.rows.specs.Situations.{chain, nth}
use Rattle.rows.specs.Rules.Rule.{situation}
use Rattle.rows.proofs.Chaining.{shorter, count_keyed}
use Rattle.rows.proofs.Seeking.{Ahead, ahead_first, ahead_next}
use Rattle.rows.proofs.situations.Situations.find.Goals as goal

pub loop-init : goal.loop-init
loop-init g c =
    let self = c.args.self.now in
    let links = self.chains.links.items in
    let s = c.args.s in
    ahead_first self.noted.items s _
    (c.head-next.ensures
    ∙ ap (newest (keys links) (length links)) c.chain.ensures
    ∙ ap (λ (n : ℕ). newest (keys links) n (chain s)) (count_keyed chain links self.noted.items self.keyed)
    ∙ ap (λ ks. newest ks (length self.noted.items) (chain s)) self.keyed)

pub loop-preserved : goal.loop-preserved
loop-preserved g c =
    let self = c.args.self.now in
    let noted = self.noted.items in
    let k = c.in-Some.number in
    let other : get_or c.deref.result.now k (situation 0 0 0 false false) ≡ c.args.s → ⊥ = search rules in
    ahead_next noted c.args.s k _
    (subst (Ahead noted c.args.s) c.in-Some.is c.loop.invariant)
    (λ e. other (ap (λ xs. nth xs k) c.deref.ensures.0 ∙ e))
    (c.before-next.ensures ∙ ap (λ ks. newest ks k (get_or ks k 0)) self.keyed)
