use Rattle.std.proofs.Common.{ℕ, ◌<◌, ◌≤◌, length, get_or, take, sym, ap, ◌∙◌, subst, arith}
use Rattle.std.proofs.lemmas.List.{get_or-take, length-take}
use Rattle.algebra.specs.declared.arc.Arc.{Arc}
use Rattle.rows.specs.Chains.{keys, newest}
use Rattle.rows.proofs.Chaining.{shorter, count_keyed}
use Rattle.rows.proofs.TableLaws.{Along, along_low, along_first, along_next, along_end}
use Rattle.algebra.proofs.AlgebraLaws.{laws_of}
use Rattle.rows.proofs.linked.Linked.from_state.Goals as goal

pub loop-next-init : goal.loop-next-init
loop-next-init g c =
    let m = g.V.Algebra.model in
    let self = c.args.self.now in
    let links = self.chains.links.items in
    let xs = take 1024 self.table.arcs.now in
    along_first m (laws_of g.world g.met.V.Algebra) g.V.Algebra.means xs c.args.state c.args.sofar _
    (c.head-next.ensures
    ∙ ap (λ (n : ℕ). newest (keys links) n c.args.state) (count_keyed (λ a. a.from) links xs self.keyed)
    ∙ ap (λ ks. newest ks (length xs) c.args.state) self.keyed)

pub loop-next-preserved : goal.loop-next-preserved
loop-next-preserved g c =
    let m = g.V.Algebra.model in
    let f = g.V.Algebra.means in
    let self = c.args.self.now in
    let xs = take 1024 self.table.arcs.now in
    let k = c.in-Some.number in
    let nowhere : Arc = record { from = 0; to = 0; label = record { cycles = 0; ports = 0 } } in
    let here = subst (λ p. Along m f xs c.args.state c.args.sofar p c.loop-next.all) c.in-Some.is c.loop-next.invariant in
    let low : k < 1024 = omega (arith, along_low c.loop-next.invariant k c.in-Some.is, length-take 1024 self.table.arcs.now) in
    along_next m (laws_of g.world g.met.V.Algebra) f xs c.args.state c.args.sofar k _ c.loop-next.all c.with-all.result (get_or self.table.arcs.now k nowhere) nowhere here
    (sym (get_or-take 1024 self.table.arcs.now k nowhere low))
    c.with-all.ensures
    (c.before-next.ensures ∙ ap (λ ks. newest ks k (get_or ks k 0)) self.keyed)

pub returns : goal.returns
returns g c =
    let m = g.V.Algebra.model in
    along_end m (laws_of g.world g.met.V.Algebra) g.V.Algebra.means (take 1024 c.args.self.now.table.arcs.now) c.args.state c.args.sofar c.loop-next.next c.loop-next.all c.in_default.is c.loop-next.invariant

pub bounds-self-k : goal.bounds-self-k
bounds-self-k g c =
    omega (arith, along_low c.loop-next.invariant c.in-Some.number c.in-Some.is, length-take 1024 c.args.self.now.table.arcs.now)

pub before-next-requires : goal.before-next-requires
before-next-requires g c =
    let self = c.args.self.now in
    omega (arith, along_low c.loop-next.invariant c.in-Some.number c.in-Some.is, count_keyed (λ a. a.from) self.chains.links.items (take 1024 self.table.arcs.now) self.keyed)

pub loop-next-smaller : goal.loop-next-smaller
loop-next-smaller g c = shorter _ c.in-Some.number _ c.loop-next.next c.in-Some.is c.before-next.ensures
