-- Choice of A and B: the phase of each. Pause is A.p ⊕ B.p, exit A.e ⊕ B.e.
use Rattle.std.specs.Prelude.{false}
use Rattle.algebra.specs.Model.{Model}
use Rattle.algebra.specs.Coefficients.{join}
use Rattle.rows.specs.Pieces.{Rows, next_phase}
use Rattle.rows.specs.Rules.Rule.{Rule, situation}

abbrev pub choice : (m : Model) (A B : Rows m) → Rule m
choice m A B = record {
  first = situation 0 0 0 false false;
  pause = λ s. join m (A.p s.a) (B.p s.b);
  exit = λ s. join m (A.e s.a) (B.e s.b);
  next = λ s. situation (next_phase A s.a) (next_phase B s.b) 0 false false;
}
