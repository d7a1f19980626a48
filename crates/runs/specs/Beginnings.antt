-- A proper beginning of a run, of one tick or more, is a paused run of the same plan.
use Rattle.std.specs.Prelude.{ℕ, ◌<◌, length, take}
use Rattle.algebra.specs.declared.label.Label.{Label}
use Rattle.runs.specs.Plan.{Plan}
use Rattle.runs.specs.Runs.{End, paused, Ticks, Family, Runs}

-- of a family of runs
abbrev pub Begins : {X : Type 0} → Family X → Type 0
Begins {X} A = (e : End) (ts : Ticks X) → A e ts → (j : ℕ) → 0 < j → j < length ts → A paused (take j ts)

abbrev pub Beginnings : Type 0
Beginnings = (plan : Plan Label) → Begins (Runs plan)
