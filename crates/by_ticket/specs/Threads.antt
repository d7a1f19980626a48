-- The plan of two threads side by side, and where a rack holds it.
use Rattle.std.specs.Prelude.{◌≡◌, ℕ, List, Some}
use Rattle.algebra.specs.declared.arc.Arc.{Arc}
use Rattle.algebra.specs.declared.label.Label.{Label}
use Rattle.algebra.specs.Model.{Model}
use Rattle.runs.specs.Arcs.{plan_arcs}
use Rattle.runs.specs.Plan as plan
use Rattle.runs.specs.Plan.{Plan}
use Rattle.shelves.specs.Book.{book}
use Rattle.shelves.specs.Calls.{Event}
use Rattle.shelves.specs.History.{Made}
use Rattle.shelves.specs.State.{State}

-- two tables, forked
abbrev pub side_by_side : List Arc → List Arc → Plan Label
side_by_side first second = plan.fork (plan.table (plan_arcs first)) (plan.table (plan_arcs second))

-- a history has made the state, and its book holds the plan for shelf k
abbrev pub HoldsPlan : (m : Model) → State m → ℕ → Plan Label → Type 0
HoldsPlan m s k p = (h : List (Event m)) × Made m h s × (book h k ≡ Some p)
