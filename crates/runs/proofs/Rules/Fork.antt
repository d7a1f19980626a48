-- The fork rule computes the fork of its pieces' plans.
use Rattle.std.proofs.Common.{◌≡◌, ℕ, zero, suc, Bool, true, false, ◌||◌, is_some, Some, None, refl}
use Rattle.algebra.specs.Model.{Model, Laws}
use Rattle.algebra.specs.Coefficients.{Coef, join, mark}
use Rattle.algebra.proofs.Coefficients.{coef_laws}
use Rattle.rows.specs.Pieces.{Rows, pause_at, exit_at}
use Rattle.rows.specs.Rules.Rule.{at, rows}
use Rattle.rows.specs.Rules.Fork.{fork as fork_rule}
use Rattle.runs.specs.Plan.{Plan, fork}
use Rattle.runs.specs.Weights.{JoinedRows}
use Rattle.runs.proofs.Joined.{gate}
use Rattle.runs.proofs.Forms.{mark as mark_at}
use Rattle.runs.proofs.EachKind.{same_rows, fork_rows}
use Rattle.runs.proofs.Situations.{phase_of, phase_a, phase_b}

-- a mark that is set by an exit
set_by : (m : Model) (b : Bool) (c : Coef m) → gate m (join m (mark m b) c) (Some m.unit) ≡ mark m (b || is_some c)
set_by m true None = refl
set_by m true (Some x) = refl
set_by m false None = refl
set_by m false (Some x) = refl

module _ (m : Model) (laws : Laws m) {X : Type 0} (weigh : X → m.Carrier) (A B : Rows m) {a b : Plan X}
    (r : JoinedRows m weigh a (pause_at A) (exit_at A)) (s : JoinedRows m weigh b (pause_at B) (exit_at B)) where
  first : (n : ℕ) → (at (fork_rule m A B) n).a ≡ phase_of A n
  first = phase_a (fork_rule m A B) A refl (λ s. refl)

  second : (n : ℕ) → (at (fork_rule m A B) n).b ≡ phase_of B n
  second = phase_b (fork_rule m A B) B refl (λ s. refl)

  first_mark : (n : ℕ) → mark_at m (exit_at A) n ≡ mark m (at (fork_rule m A B) n).wa
  first_mark zero = refl
  first_mark (suc n) = (cc (first_mark n, first n, set_by m (at (fork_rule m A B) n).wa (exit_at A n)))

  second_mark : (n : ℕ) → mark_at m (exit_at B) n ≡ mark m (at (fork_rule m A B) n).wb
  second_mark zero = refl
  second_mark (suc n) = (cc (second_mark n, second n, set_by m (at (fork_rule m A B) n).wb (exit_at B n)))

  pub fork_computes : JoinedRows m weigh (fork a b) (λ n. (rows (fork_rule m A B) n).0) (λ n. (rows (fork_rule m A B) n).1)
  fork_computes = same_rows m laws weigh (fork_rows m laws weigh r s)
      (λ n. (cc (first n, second n, first_mark n, second_mark n, (coef_laws m laws).join_assoc (pause_at B n) (exit_at B n) (mark_at m (exit_at B) n))))
      (λ n. (cc (first n, second n, first_mark n, second_mark n)))
