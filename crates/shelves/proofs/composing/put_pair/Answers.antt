use Rattle.std.proofs.Common.{◌≡◌, ℕ, [], take, sym, subst, Result}
use Rattle.algebra.specs.Model.{Model}
use Rattle.rows.specs.Pieces.{Rows, meanings, on_shelf}
use Rattle.shelves.specs.declared.call.Pairing.{Pairing}
use Rattle.shelves.specs.declared.refusal.Refusal.{Refusal}
use Rattle.shelves.specs.Effects.{pair_step}
use Rattle.shelves.specs.Questions.{pair_rule}
use Rattle.shelves.specs.State.{State}
use Rattle.shelves.specs.Stops.{Built}
use Rattle.shelves.proofs.composing.put_pair.Goals as goal

-- what is built of equal pieces by equal kinds is the same
of_equals : (m : Model) (kind like : Pairing) (A B A' B' : Rows m) (shelf i j : ℕ) (s s' : State m) (r : Result ℕ Refusal) → kind ≡ like → A' ≡ A → B' ≡ B → Built m (pair_rule m like A' B') shelf (pair_step like i j) [] s s' r → Built m (pair_rule m kind A B) shelf (pair_step kind i j) [] s s' r
of_equals m kind like A B A' B' shelf i j s s' r is a b built =
    subst (λ k. Built m (pair_rule m k A B) shelf (pair_step k i j) [] s s' r) (sym is)
    (subst (λ X. Built m (pair_rule m like X B) shelf (pair_step like i j) [] s s' r) a
    (subst (λ Y. Built m (pair_rule m like A' Y) shelf (pair_step like i j) [] s s' r) b built))

pub returns-in-Choice : goal.returns-in-Choice
returns-in-Choice g c =
    let m = g.V.Algebra.model in
    let cells = meanings g.V.Algebra.means (take 2048 c.args.core.now.cells.lent.now) in
    let a = c.piece-a.ensures in
    let b = c.piece-b.ensures in
    of_equals m _ _ _ _ _ _ _ _ _ _ _ _ c.in-Choice.is (λ i. on_shelf m cells (a.place i).shelf (a.transient i) (a.period i))
    (λ i. on_shelf m cells (b.place i).shelf (b.transient i) (b.period i)) c.build.ensures.does

pub returns-in-Sequence : goal.returns-in-Sequence
returns-in-Sequence g c =
    let m = g.V.Algebra.model in
    let cells = meanings g.V.Algebra.means (take 2048 c.args.core.now.cells.lent.now) in
    let a = c.piece-a.ensures in
    let b = c.piece-b.ensures in
    of_equals m _ _ _ _ _ _ _ _ _ _ _ _ c.in-Sequence.is (λ i. on_shelf m cells (a.place i).shelf (a.transient i) (a.period i))
    (λ i. on_shelf m cells (b.place i).shelf (b.transient i) (b.period i)) c.build-in-Sequence.ensures.does

pub returns-in-Fork : goal.returns-in-Fork
returns-in-Fork g c =
    let m = g.V.Algebra.model in
    let cells = meanings g.V.Algebra.means (take 2048 c.args.core.now.cells.lent.now) in
    let a = c.piece-a.ensures in
    let b = c.piece-b.ensures in
    of_equals m _ _ _ _ _ _ _ _ _ _ _ _ c.in-Fork.is (λ i. on_shelf m cells (a.place i).shelf (a.transient i) (a.period i))
    (λ i. on_shelf m cells (b.place i).shelf (b.transient i) (b.period i)) c.build-in-Fork.ensures.does

pub returns-in-Abort : goal.returns-in-Abort
returns-in-Abort g c =
    let m = g.V.Algebra.model in
    let cells = meanings g.V.Algebra.means (take 2048 c.args.core.now.cells.lent.now) in
    let a = c.piece-a.ensures in
    let b = c.piece-b.ensures in
    of_equals m _ _ _ _ _ _ _ _ _ _ _ _ c.in-Abort.is (λ i. on_shelf m cells (a.place i).shelf (a.transient i) (a.period i))
    (λ i. on_shelf m cells (b.place i).shelf (b.transient i) (b.period i)) c.build-in-Abort.ensures.does
