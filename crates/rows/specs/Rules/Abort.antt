-- Abort, H over A: the phase of each, and a mark L: at tick 0 it is set, and at each later tick it says whether A.p was present
-- one tick ago.
use Rattle.std.specs.Prelude.{true, false, is_some}
use Rattle.algebra.specs.Model.{Model}
use Rattle.algebra.specs.Coefficients.{join, add, mark}
use Rattle.rows.specs.Pieces.{Rows, next_phase}
use Rattle.rows.specs.Rules.Rule.{Rule, situation}

-- pause is H.p ⊙ A.p; exit is (H.e ⊙ L) ⊕ (H.p ⊙ A.e)
abbrev pub abort : (m : Model) (H A : Rows m) → Rule m
abort m H A = record {
  first = situation 0 0 0 true false;
  pause = λ s. add m (H.p s.a) (A.p s.b);
  exit = λ s. join m (add m (H.e s.a) (mark m s.wa)) (add m (H.p s.a) (A.e s.b));
  next = λ s. situation (next_phase H s.a) (next_phase A s.b) 0 (is_some (A.p s.b)) false;
}
