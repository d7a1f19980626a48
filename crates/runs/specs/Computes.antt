-- Each rule computes its plan: where the pieces give the joined weights of plans, the rule's rows are those of the composed plan.
use Rattle.std.specs.Prelude.{◌≡◌, ℕ, zero, suc, ◌≤◌, List, Some, None}
use mathlib.Core.List.{Memᴰ as Among}
use Rattle.algebra.specs.declared.label.Label.{Label}
use Rattle.algebra.specs.declared.arc.Arc.{Arc as Recorded}
use Rattle.algebra.specs.Model.{Model}
use Rattle.algebra.specs.Coefficients.{Coef}
use Rattle.rows.specs.Pieces.{Rows, pause_at, exit_at}
use Rattle.rows.specs.Rules.Rule.{Rule, rows}
use Rattle.rows.specs.Rules.Table.{table as table_rule}
use Rattle.rows.specs.Rules.Choice.{choice as choice_rule}
use Rattle.rows.specs.Rules.Sequence.{sequence as sequence_rule}
use Rattle.rows.specs.Rules.Loop.{loop as loop_rule}
use Rattle.rows.specs.Rules.Fork.{fork as fork_rule}
use Rattle.rows.specs.Rules.Abort.{abort as abort_rule}
use Rattle.runs.specs.Plan.{Plan, node, pause, table, choice, sequence, loop, fork, abort}
use Rattle.runs.specs.Arcs.{plan_arcs, LeadsOn}
use Rattle.runs.specs.Weights.{JoinedRows}

module _ (m : Model) where
  -- absent at every tick
  abbrev pub never : ℕ → Coef m
  never n = None

  -- w at the first tick, then absent
  abbrev pub at_first : m.Carrier → ℕ → Coef m
  at_first w zero = Some w
  at_first w (suc n) = None

  -- the unit at the second tick, else absent
  abbrev pub at_second : ℕ → Coef m
  at_second zero = None
  at_second (suc n) = at_first m.unit n

  -- at every tick the piece gives the joined weights of the plan
  pub record Gives (A : Rows m) (a : Plan Label) : Type 0 where
    pub positive : 1 ≤ A.period
    pub weights : JoinedRows m m.weigh a (pause_at A) (exit_at A)

  -- the rows of the rule are the joined weights of the plan
  abbrev pub Computes : Rule m → Plan Label → Type 0
  Computes rule plan = JoinedRows m m.weigh plan (λ n. (rows rule n).0) (λ n. (rows rule n).1)

  -- pause is absent, exit the label's weight at tick 0
  abbrev pub NodeComputes : Type 0
  NodeComputes = (x : Label) → JoinedRows m m.weigh (node x) never (at_first (m.weigh x))

  -- pause is the label's weight at tick 0, exit the unit at tick 1
  abbrev pub PauseComputes : Type 0
  PauseComputes = (x : Label) → JoinedRows m m.weigh (pause x) (at_first (m.weigh x)) at_second

  abbrev pub TableComputes : Type 0
  TableComputes = (arcs : List Recorded) → ((arc : Recorded) → Among arc arcs → LeadsOn arc) → Computes (table_rule m arcs) (table (plan_arcs arcs))

  abbrev pub ChoiceComputes : Type 0
  ChoiceComputes = (A B : Rows m) (a b : Plan Label) → Gives A a → Gives B b → Computes (choice_rule m A B) (choice a b)

  abbrev pub SequenceComputes : Type 0
  SequenceComputes = (A B : Rows m) (a b : Plan Label) → Gives A a → Gives B b → Computes (sequence_rule m A B) (sequence a b)

  -- where no run of the piece leaves at tick 0
  abbrev pub LoopComputes : Type 0
  LoopComputes = (A : Rows m) (a : Plan Label) → Gives A a → exit_at A 0 ≡ None → Computes (loop_rule m A) (loop a)

  abbrev pub ForkComputes : Type 0
  ForkComputes = (A B : Rows m) (a b : Plan Label) → Gives A a → Gives B b → Computes (fork_rule m A B) (fork a b)

  -- H over A
  abbrev pub AbortComputes : Type 0
  AbortComputes = (H A : Rows m) (h a : Plan Label) → Gives H h → Gives A a → Computes (abort_rule m H A) (abort h a)
