use Rattle.std.proofs.Common.{[], ◌∷◌, refl}
use Rattle.std.proofs.lemmas.Result.{err_from_is_err_and}
use Rattle.shelves.specs.declared.refusal.Refusal.TheVariants.{NeverRepeats, TooLong}
use Rattle.shelves.specs.Held.{state_of, call_of}
use Rattle.shelves.specs.Questions.{Yes, FirstNo}
use Rattle.shelves.specs.Refusals.{early, order}
use Rattle.algebra.proofs.AlgebraLaws.{laws_of}
use Rattle.shelves.proofs.Asking.{no_before}
use Rattle.shelves.proofs.Histories.{answers}
use Rattle.shelves.proofs.answering.answer.Goals as goal

pub returns-in_err-first_no : goal.returns-in_err-first_no
returns-in_err-first_no g c =
    let m = g.V.Algebra.model in
    let s = state_of m g.V.Algebra.means c.args.core.now in
    let p = err_from_is_err_and c.from_residual.result c.from_residual.ensures.1 in
    let no = c.in_err-first_no.field-0.0 in
    let first : FirstNo (Yes m s (call_of c.args.call)) order no = no_before (Yes m s (call_of c.args.call)) early (NeverRepeats ∷ TooLong ∷ []) no c.in_err-first_no.ensures in
    rw (p.1, p.2) (answers m (laws_of g.world g.met.V.Algebra) g.met.V.Algebra.chosen (first, refl))

pub returns : goal.returns
returns g c = answers g.V.Algebra.model (laws_of g.world g.met.V.Algebra) g.met.V.Algebra.chosen c.act.ensures
