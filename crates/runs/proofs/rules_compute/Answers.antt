use Rattle.runs.proofs.EachKind.{node_rows, pause_rows}
use Rattle.runs.proofs.Rules.Table.{table_computes}
use Rattle.runs.proofs.Rules.Choice.{choice_computes}
use Rattle.runs.proofs.Rules.Sequence.{sequence_computes}
use Rattle.runs.proofs.Rules.Loop.{loop_computes}
use Rattle.runs.proofs.Rules.Fork.{fork_computes}
use Rattle.runs.proofs.Rules.Abort.{abort_computes}
use Rattle.algebra.proofs.AlgebraLaws.{laws_of}
use Rattle.runs.proofs.rules_compute.Goals as goal

pub returns : goal.returns
returns g c =
    let laws = laws_of g.world g.met.V.Algebra in
    record {
      node = node_rows _ laws _;
      pause = pause_rows _ laws _;
      table = λ arcs on. table_computes _ arcs on laws;
      choice = λ A B a b r s. choice_computes _ laws _ A B r.weights s.weights;
      sequence = λ A B a b r s. sequence_computes _ laws _ A B s.positive r.weights s.weights;
      repeat = λ A a r. loop_computes _ laws _ A r.positive r.weights;
      fork = λ A B a b r s. fork_computes _ laws _ A B r.weights s.weights;
      abort = λ H A h a r s. abort_computes _ laws _ H A r.weights s.weights;
    }
