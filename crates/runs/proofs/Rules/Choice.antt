-- The choice rule computes the choice of its pieces' plans.
use Rattle.std.proofs.Common.{◌≡◌, ℕ, refl}
use Rattle.algebra.specs.Model.{Model, Laws}
use Rattle.rows.specs.Pieces.{Rows, pause_at, exit_at}
use Rattle.rows.specs.Rules.Rule.{at, rows}
use Rattle.rows.specs.Rules.Choice.{choice as choice_rule}
use Rattle.runs.specs.Plan.{Plan, choice}
use Rattle.runs.specs.Weights.{JoinedRows}
use Rattle.runs.proofs.EachKind.{same_rows, choice_rows}
use Rattle.runs.proofs.Situations.{phase_of, phase_a, phase_b}

module _ (m : Model) (laws : Laws m) {X : Type 0} (weigh : X → m.Carrier) (A B : Rows m) {a b : Plan X}
    (r : JoinedRows m weigh a (pause_at A) (exit_at A)) (s : JoinedRows m weigh b (pause_at B) (exit_at B)) where
  first : (n : ℕ) → (at (choice_rule m A B) n).a ≡ phase_of A n
  first = phase_a (choice_rule m A B) A refl (λ s. refl)

  second : (n : ℕ) → (at (choice_rule m A B) n).b ≡ phase_of B n
  second = phase_b (choice_rule m A B) B refl (λ s. refl)

  pub choice_computes : JoinedRows m weigh (choice a b) (λ n. (rows (choice_rule m A B) n).0) (λ n. (rows (choice_rule m A B) n).1)
  choice_computes = same_rows m laws weigh (choice_rows m laws weigh r s) (λ n. (cc (first n, second n))) (λ n. (cc (first n, second n)))
