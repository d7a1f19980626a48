use Rattle.std.proofs.Common.{◌≤◌, ◌⊎◌, get_or, sym, subst, ⊎_elim, arith}
use Rattle.std.proofs.lemmas.List.{take_all}
use Rattle.std.proofs.lemmas.Bool.{cases_lt}
use Rattle.algebra.specs.declared.arc.Arc.{Arc}
use Rattle.shelves.specs.Questions.{UpToNamed}
use Rattle.shelves.proofs.Elements.{among_at, among_more}
use Rattle.shelves.proofs.arcs.states.Goals as goal

pub loop-arc-preserved : goal.loop-arc-preserved
loop-arc-preserved c q =
    let arcs = c.args.arcs.now in
    let i = c.loop-arc.arc-index in
    let less = c.loop-arc-test.true in (
      λ h. ⊎_elim
          (λ near. (get_or arcs i _, among_at arcs i _ less, (c.reach.ensures q).0 near))
          (λ far. (c.loop-arc.invariant q).0 (omega arith))
          (cases_lt q c.reach.result),
      λ n. ⊎_elim
          (λ e. let h = (c.reach.ensures q).1 (subst (λ (a : Arc). (q ≤ a.from) ⊎ ((q ≤ a.to) × (a.to ≤ 63))) e n.2) in omega (arith, h))
          (λ before. let h = (c.loop-arc.invariant q).1 (n.0, before, n.2) in omega (arith, h))
          (among_more arcs i _ n.0 less n.1),
    )

pub returns : goal.returns
returns c q = (
  (c.loop-arc.invariant q).0,
  λ n. (c.loop-arc.invariant q).1 (subst (λ arcs. UpToNamed arcs q) (sym (take_all c.loop-arc.arc-index c.args.arcs.now c.loop-arc-test.false)) n),
)
