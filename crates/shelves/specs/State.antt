-- The state of a rack, as its promises speak of it.
use Rattle.std.specs.Prelude.{ℕ, Bool, List, is_some, None, Option, slice_index_or}
use Rattle.algebra.specs.declared.arc.Arc.{Arc}
use Rattle.algebra.specs.Model.{Model}
use Rattle.algebra.specs.Coefficients.{Coef}
use Rattle.rows.specs.Pieces.{Rows, on_shelf}
use Rattle.runs.specs.declared.step.Step.{Step}

-- a shelf: the number of the step that it holds, None where it is empty, and the shape of its rows
pub record ShelfState : Type 0 where
  pub step : Option ℕ
  pub transient : ℕ
  pub period : ℕ

abbrev pub empty_shelf : ShelfState
empty_shelf = record { step = None; transient = 0; period = 1 }

-- shelf k of these holds a step; one past the last is empty
abbrev pub holds_step : List ShelfState → ℕ → Bool
holds_step shelves k = is_some (slice_index_or shelves k empty_shelf).step

-- what the 2,048 cells of the shelves mean, the 16 shelves, the steps and arcs recorded, in their order, how many cells
-- are lent, and what those from 4,096 on mean; the working cells between are free, and no promise speaks of them
pub record State (m : Model) : Type 0 where
  pub cells : List (Coef m)
  pub shelves : List ShelfState
  pub steps : List Step
  pub arcs : List Arc
  pub lent : ℕ
  pub past : List (Coef m)

-- shelf k
abbrev pub shelf_at : {m : Model} → State m → ℕ → ShelfState
shelf_at s k = slice_index_or s.shelves k empty_shelf

-- the rows that shelf k gives
abbrev pub shelf_rows : {m : Model} → State m → ℕ → Rows m
shelf_rows {m} s k = on_shelf m s.cells k (shelf_at s k).transient (shelf_at s k).period
