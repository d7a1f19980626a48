use Rattle.std.proofs.Common.{[], ◌∷◌}
use Rattle.std.proofs.lemmas.Result.{err_from_is_err_and}
use Rattle.rows.specs.Rules.Loop as loop_rule
use Rattle.shelves.specs.declared.refusal.Refusal.TheVariants.{NeverRepeats, TooLong}
use Rattle.shelves.specs.Calls.{loop}
use Rattle.shelves.specs.Held.{state_of}
use Rattle.shelves.specs.Questions.{Yes}
use Rattle.shelves.specs.Refusals.{early}
use Rattle.shelves.specs.State.{shelf_rows}
use Rattle.shelves.proofs.Asking.{all_then, no_after, stop_no, turn_yes}
use Rattle.shelves.proofs.acting.act_loop.Goals as goal

pub returns-in_err-number : goal.returns-in_err-number
returns-in_err-number g c =
    let m = g.V.Algebra.model in
    let s = state_of m g.V.Algebra.means c.args.core.now in
    let p = err_from_is_err_and c.from_residual.result c.from_residual.ensures.1 in
    let no = c.in_err-number.field-0.0 in
    let found = rw c.filled_shelf-a.ensures.place at c.in_err-number.ensures in
    rw (p.1, p.2) (no_after (Yes m s (loop c.args.shelf)) early (NeverRepeats ∷ TooLong ∷ []) no c.requires (stop_no (loop_rule.loop m (shelf_rows s c.args.shelf)) no found.0), found.1)

pub returns : goal.returns
returns g c =
    let m = g.V.Algebra.model in
    let s = state_of m g.V.Algebra.means c.args.core.now in
    let done = rw c.filled_shelf-a.ensures.place at c.in_ok-number.ensures in (
      all_then (Yes m s (loop c.args.shelf)) early (NeverRepeats ∷ TooLong ∷ []) c.requires (turn_yes (loop_rule.loop m (shelf_rows s c.args.shelf)) _ _ _ _ _ _ done.0 done.1),
      (done.0, (c.filled_shelf-a.result.step, c.filled_shelf-a.ensures.step, done.1)),
    )
