-- Filled shelves, and those that a call fills.
use Rattle.std.specs.Prelude.{◌≡◌, ℕ, true, List, [], ◌∷◌}
use Rattle.algebra.specs.Model.{Model}
use Rattle.shelves.specs.Calls.{Call, node, pause, table, pair, loop, clear, report}
use Rattle.shelves.specs.State.{State, holds_step}

-- shelf k holds a step
abbrev pub IsFilled : {m : Model} → State m → ℕ → Type 0
IsFilled s k = holds_step s.shelves k ≡ true

-- the shelves that a call fills where it is accepted
abbrev pub filled_by : Call → List ℕ
filled_by (node k l) = k ∷ []
filled_by (pause k l) = k ∷ []
filled_by (table k arcs) = k ∷ []
filled_by (pair kind a b) = a ∷ []
filled_by (loop k) = k ∷ []
filled_by (clear k) = []
filled_by (report k) = []
