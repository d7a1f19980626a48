-- What two plans, and two shelves, have in common, and the shape of a plan.
use Rattle.std.specs.Prelude.{◌≡◌, ℕ, ◌+◌, ◌*◌, ◌<◌, None, slice_index_or}
use Rattle.algebra.specs.declared.label.Label.{Label}
use Rattle.algebra.specs.Model.{Model}
use Rattle.algebra.specs.Coefficients.{Coef}
use Rattle.rows.specs.Repeats.{LeastShape}
use Rattle.runs.specs.Plan.{Plan}
use Rattle.runs.specs.Runs.{End}
use Rattle.runs.specs.Weights.{JoinedWeight, JoinedRows}
use Rattle.shelves.specs.State.{State, shelf_at}

module _ (m : Model) where
  -- two shelves are equal in transient, period and all cells
  pub record SameShelves (s : State m) (j k : ℕ) : Type 0 where
    pub transient : (shelf_at s j).transient ≡ (shelf_at s k).transient
    pub period : (shelf_at s j).period ≡ (shelf_at s k).period
    pub cells : (i : ℕ) → i < 128 → slice_index_or s.cells (128 * j + i) None ≡ slice_index_or s.cells (128 * k + i) None

  -- the joined weights of two plans, paused and left, are equal at every tick
  abbrev pub SameWeights : Plan Label → Plan Label → Type 0
  SameWeights a b = (end : End) (n : ℕ) (c d : Coef m) → JoinedWeight m m.weigh a end n c → JoinedWeight m m.weigh b end n d → c ≡ d

  -- from the transient on the joined weights of the plan repeat with the period, and both are the least
  pub record Shaped (plan : Plan Label) (transient period : ℕ) : Type 0 where
    pub pauses : ℕ → Coef m
    pub exits : ℕ → Coef m
    pub weights : JoinedRows m m.weigh plan pauses exits
    pub least : LeastShape {X = Coef m × Coef m} (λ n. (pauses n, exits n)) transient period
