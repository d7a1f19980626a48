-- What a worked case says: a plan, the rows that it comes to, the reply and the figure.
use Rattle.std.specs.Prelude.{◌≡◌, ℕ, Some}
use Rattle.algebra.specs.declared.label.Label.{Label}
use Rattle.algebra.specs.Held.{held}
use Rattle.algebra.specs.Model.{Model}
use Rattle.algebra.specs.Models.{top, worst}
use Rattle.rows.specs.Pieces.{Rows, pause_at, exit_at, given_at}
use Rattle.rows.specs.Repeats.{FirstRepeat, LeastShape}
use Rattle.rows.specs.Rules.Rule.{Rule, at, rows as rows_of_rule}
use Rattle.runs.specs.Figure.{Covers, FirstAt}
use Rattle.runs.specs.Plan.{Plan}
use Rattle.runs.specs.Weights.{JoinedRows}

-- a plan, and the rows that it should come to
pub record Case (m : Model) : Type 0 where
  pub plan : Plan Label
  pub rows : Rows m

-- at every tick the rows are the joined weights of the plan's runs, and their shape is the least
pub record Stands {m : Model} (c : Case m) : Type 0 where
  pub weights : JoinedRows m m.weigh c.plan (pause_at c.rows) (exit_at c.rows)
  pub least : LeastShape (given_at c.rows) c.rows.transient c.rows.period

-- the case stands, the rule has its rows at every tick, and the rule's first repeated situation has the reply's number
pub record Works {m : Model} (rule : Rule m) (reply : ℕ) (c : Case m) : Type 0 where
  pub stands : Stands c
  pub worked : (n : ℕ) → rows_of_rule rule n ≡ given_at c.rows n
  pub replies : FirstRepeat (at rule) reply

-- under worst the plan's figure is w cycles, and t is the first tick at which a run reaches it
pub record Peaks (c : Case worst) (w t : ℕ) : Type 0 where
  pub covers : Covers worst worst.weigh c.plan (Some (held top w))
  pub first : FirstAt worst worst.weigh c.plan t (held top w)
