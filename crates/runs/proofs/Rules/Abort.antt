-- The abort rule computes the abort of its pieces' plans.
use Rattle.std.proofs.Common.{◌≡◌, ℕ, zero, suc, is_some, Some, None, refl}
use Rattle.algebra.specs.Model.{Model, Laws}
use Rattle.algebra.specs.Coefficients.{Coef, mark}
use Rattle.rows.specs.Pieces.{Rows, pause_at, exit_at}
use Rattle.rows.specs.Rules.Rule.{at, rows}
use Rattle.rows.specs.Rules.Abort.{abort as abort_rule}
use Rattle.runs.specs.Plan.{Plan, abort}
use Rattle.runs.specs.Weights.{JoinedRows}
use Rattle.runs.proofs.Joined.{gate}
use Rattle.runs.proofs.Forms.{alive}
use Rattle.runs.proofs.EachKind.{same_rows, abort_rows}
use Rattle.runs.proofs.Situations.{phase_of, phase_a, phase_b}

set_by : (m : Model) (c : Coef m) → gate m c (Some m.unit) ≡ mark m (is_some c)
set_by m None = refl
set_by m (Some x) = refl

module _ (m : Model) (laws : Laws m) {X : Type 0} (weigh : X → m.Carrier) (H A : Rows m) {h a : Plan X}
    (r : JoinedRows m weigh h (pause_at H) (exit_at H)) (s : JoinedRows m weigh a (pause_at A) (exit_at A)) where
  first : (n : ℕ) → (at (abort_rule m H A) n).a ≡ phase_of H n
  first = phase_a (abort_rule m H A) H refl (λ s. refl)

  second : (n : ℕ) → (at (abort_rule m H A) n).b ≡ phase_of A n
  second = phase_b (abort_rule m H A) A refl (λ s. refl)

  alive_mark : (n : ℕ) → alive m (pause_at A) n ≡ mark m (at (abort_rule m H A) n).wa
  alive_mark zero = refl
  alive_mark (suc n) = (cc (second n, set_by m (pause_at A n)))

  pub abort_computes : JoinedRows m weigh (abort h a) (λ n. (rows (abort_rule m H A) n).0) (λ n. (rows (abort_rule m H A) n).1)
  abort_computes = same_rows m laws weigh (abort_rows m laws weigh r s) (λ n. (cc (first n, second n))) (λ n. (cc (first n, second n, alive_mark n)))
