-- The arcs of a table as they are recorded, and as a plan has them.
use Rattle.std.specs.Prelude.{◌≡◌, ℕ, ◌≤◌, cond, ◌⊎◌, List, map, ◌==◌}
use Rattle.algebra.specs.declared.label.Label.{Label}
use Rattle.algebra.specs.declared.arc.Arc.{Arc as Recorded}
use Rattle.runs.specs.Plan.{Lead, state, out, Arc}

-- where a recorded arc leads: 255 is out, any other number a state
abbrev pub lead_of : ℕ → Lead
lead_of to = cond (to == 255) out (state to)

abbrev pub arc_of : Recorded → Arc Label
arc_of arc = record { from = arc.from; lead = lead_of arc.to; label = arc.label }

abbrev pub plan_arcs : List Recorded → List (Arc Label)
plan_arcs = map arc_of

-- the arc leads to one of the 64 states, or out
abbrev pub LeadsOn : Recorded → Type 0
LeadsOn arc = (arc.to ≤ 63) ⊎ (arc.to ≡ 255)
