use Rattle.std.proofs.Common.{◌≡◌, [], ◌∷◌, refl, ap, ◌∙◌, subst}
use Rattle.rows.specs.declared.place.Place.{Place}
use Rattle.rows.specs.Pieces.{Rows, meanings, on_shelf}
use Rattle.shelves.specs.declared.refusal.Refusal.TheVariants.{NeverRepeats, TooLong}
use Rattle.shelves.specs.Calls.{report}
use Rattle.shelves.specs.Effects.{Reports}
use Rattle.shelves.specs.Held.{state_of}
use Rattle.shelves.specs.Questions.{Yes}
use Rattle.shelves.specs.Refusals.{early}
use Rattle.shelves.specs.Told.{report_of}
use Rattle.shelves.proofs.Asking.{all_then}
use Rattle.shelves.proofs.acting.shelf_report.Goals as goal

pub returns : goal.returns
returns g c =
    let m = g.V.Algebra.model in
    let f = g.V.Algebra.means in
    let core = c.args.core.now in
    let s = state_of m f core in
    let p = c.piece-piece.ensures in
    let here = ap (λ (x : Place). x.shelf) p.place ∙ c.place.ensures in
    let transient = rw c.place.ensures at p.transient in
    let period = rw c.place.ensures at p.period in
    let is : ◌≡◌ {A = Rows m} _ _ = λ i. on_shelf m (meanings f (c.kept-kept.ensures i)) (here i) (transient i) (period i) in (
      all_then (Yes m s (report c.args.shelf)) early (NeverRepeats ∷ TooLong ∷ []) c.requires (tt, (tt, tt)),
      subst (λ (rows : Rows m). Reports m rows (report_of m f c.report.result)) is c.report.ensures,
      refl,
    )
