use Rattle.std.proofs.Common.{ℕ, [], ◌∷◌, subst}
use Rattle.std.proofs.lemmas.Result.{err_from_is_err_and}
use Rattle.shelves.specs.declared.refusal.Refusal.TheVariants.{NeverRepeats, TooLong}
use Rattle.shelves.specs.Calls.{pair}
use Rattle.shelves.specs.Effects.{Empties}
use Rattle.shelves.specs.Held.{state_of}
use Rattle.shelves.specs.Questions.{Yes, pair_rule}
use Rattle.shelves.specs.Refusals.{early}
use Rattle.shelves.specs.State.{shelf_rows}
use Rattle.shelves.proofs.Asking.{all_then, no_after, stop_no, turn_yes}
use Rattle.shelves.proofs.acting.act_pair.Goals as goal

pub returns-in_err-number : goal.returns-in_err-number
returns-in_err-number g c =
    let m = g.V.Algebra.model in
    let s = state_of m g.V.Algebra.means c.args.core.now in
    let p = err_from_is_err_and c.from_residual.result c.from_residual.ensures.1 in
    let no = c.in_err-number.field-0.0 in
    let found = rw (c.filled_shelf-a.ensures.place, c.filled_shelf-b.ensures.place) at c.in_err-number.ensures in
    rw (p.1, p.2) (no_after (Yes m s (pair c.args.kind c.args.first c.args.second)) early (NeverRepeats ∷ TooLong ∷ []) no c.requires (stop_no (pair_rule m c.args.kind (shelf_rows s c.args.first) (shelf_rows s c.args.second)) no found.0), found.1)

pub returns : goal.returns
returns g c =
    let m = g.V.Algebra.model in
    let s = state_of m g.V.Algebra.means c.args.core.now in
    let between = state_of m g.V.Algebra.means c.put_pair.new.core in
    let last = state_of m g.V.Algebra.means c.empty.new.core in
    let a = c.filled_shelf-a in
    let b = c.filled_shelf-b in
    let done = rw (a.ensures.place, b.ensures.place) at c.in_ok-number.ensures in (
      all_then (Yes m s (pair c.args.kind c.args.first c.args.second)) early (NeverRepeats ∷ TooLong ∷ []) c.requires (turn_yes (pair_rule m c.args.kind (shelf_rows s c.args.first) (shelf_rows s c.args.second)) _ _ _ _ _ _ done.0 done.1),
      (done.0, (a.result.step, b.result.step, between, a.ensures.step, b.ensures.step, done.1, subst (λ (k : ℕ). Empties m k between last) b.ensures.place c.empty.ensures)),
    )
