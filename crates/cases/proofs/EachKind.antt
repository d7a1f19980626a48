-- What each kind of plan computes over cases that stand.
use Rattle.std.proofs.Common.{◌≡◌, None}
use Rattle.algebra.specs.Model.{Model, Laws}
use Rattle.rows.specs.Pieces.{exit_at}
use Rattle.rows.specs.Rules.Abort.{abort as abort_rule}
use Rattle.rows.specs.Rules.Choice.{choice as choice_rule}
use Rattle.rows.specs.Rules.Fork.{fork as fork_rule}
use Rattle.rows.specs.Rules.Loop.{loop as loop_rule}
use Rattle.rows.specs.Rules.Sequence.{sequence as sequence_rule}
use Rattle.runs.specs.Computes.{Computes}
use Rattle.runs.specs.Plan.{choice, sequence, loop, fork, abort}
use Rattle.runs.proofs.Rules.Abort.{abort_computes}
use Rattle.runs.proofs.Rules.Choice.{choice_computes}
use Rattle.runs.proofs.Rules.Fork.{fork_computes}
use Rattle.runs.proofs.Rules.Loop.{loop_computes}
use Rattle.runs.proofs.Rules.Sequence.{sequence_computes}
use Rattle.cases.specs.Case.{Case, Stands}

module _ {m : Model} (laws : Laws m) {a : Case m} (s : Stands a) where
  pub of_loop : exit_at a.rows 0 ≡ None → Computes m (loop_rule m a.rows) (loop a.plan)
  of_loop = loop_computes m laws m.weigh a.rows s.least.positive s.weights

  module _ {b : Case m} (t : Stands b) where
    pub of_choice : Computes m (choice_rule m a.rows b.rows) (choice a.plan b.plan)
    of_choice = choice_computes m laws m.weigh a.rows b.rows s.weights t.weights

    pub of_sequence : Computes m (sequence_rule m a.rows b.rows) (sequence a.plan b.plan)
    of_sequence = sequence_computes m laws m.weigh a.rows b.rows t.least.positive s.weights t.weights

    pub of_fork : Computes m (fork_rule m a.rows b.rows) (fork a.plan b.plan)
    of_fork = fork_computes m laws m.weigh a.rows b.rows s.weights t.weights

    -- the first over the second
    pub of_abort : Computes m (abort_rule m a.rows b.rows) (abort a.plan b.plan)
    of_abort = abort_computes m laws m.weigh a.rows b.rows s.weights t.weights
