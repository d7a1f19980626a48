-- Two sound shelves are equal exactly when the joined weights of their plans are.
use Rattle.std.proofs.Common.{◌≡◌, ℕ, ◌↔◌, ap, ◌∙◌}
use Rattle.algebra.specs.declared.label.Label.{Label}
use Rattle.algebra.specs.Model.{Model, Laws}
use Rattle.rows.specs.Pieces.{given_at}
use Rattle.runs.specs.Plan.{Plan}
use Rattle.runs.specs.Runs.{paused, left}
use Rattle.runs.proofs.Joined.{unique}
use Rattle.runs.proofs.OneShape.{one_keeping}
use Rattle.shelves.specs.Meaning.{SameShelves, SameWeights}
use Rattle.shelves.specs.State.{State, shelf_at, shelf_rows}
use Rattle.shelves.proofs.Invariant.{Sound}

module _ (m : Model) (laws : Laws m) (s : State m) (j k : ℕ) (a b : Plan Label) (first : Sound m s.cells s.steps s.arcs j (shelf_at s j) a)
    (second : Sound m s.cells s.steps s.arcs k (shelf_at s k) b) where
  abbrev SameRows : Type 0
  SameRows = (n : ℕ) → given_at (shelf_rows s j) n ≡ given_at (shelf_rows s k) n

  weights_same : SameRows → SameWeights m a b
  weights_same same paused n c d g h =
      unique m laws g (first.gives.pauses n) ∙ ap (λ x. x.0) (same n) ∙ unique m laws (second.gives.pauses n) h
  weights_same same left n c d g h =
      unique m laws g (first.gives.leaves n) ∙ ap (λ x. x.1) (same n) ∙ unique m laws (second.gives.leaves n) h

  rows_same : SameWeights m a b → SameRows
  rows_same same n =
      let p = same paused n _ _ (first.gives.pauses n) (second.gives.pauses n) in
      let e = same left n _ _ (first.gives.leaves n) (second.gives.leaves n) in
      λ i. (p i, e i)

  pub sound_meaning : SameShelves m s j k ↔ SameWeights m a b
  sound_meaning =
      let kept = one_keeping m s.cells s.cells j k (shelf_at s j).transient (shelf_at s j).period (shelf_at s k).transient (shelf_at s k).period first.shelved second.shelved in (
        λ same. weights_same (kept.1 (same.transient, same.period, same.cells)),
        λ same. let h = kept.0 (rows_same same) in record { transient = h.0; period = h.1; cells = h.2 },
      )
