-- Fork of A and B: the phase of each, and for each a mark W that says whether its exit has been present before this tick.
use Rattle.std.specs.Prelude.{false, ◌||◌, is_some}
use Rattle.algebra.specs.Model.{Model}
use Rattle.algebra.specs.Coefficients.{join, add, mark}
use Rattle.rows.specs.Pieces.{Rows, next_phase}
use Rattle.rows.specs.Rules.Rule.{Rule, situation}

-- pause is A.p ⊙ (B.p ⊕ B.e ⊕ WB) ⊕ (A.e ⊕ WA) ⊙ B.p; exit is A.e ⊙ (B.e ⊕ WB) ⊕ WA ⊙ B.e
abbrev pub fork : (m : Model) (A B : Rows m) → Rule m
fork m A B = record {
  first = situation 0 0 0 false false;
  pause = λ s. join m (add m (A.p s.a) (join m (join m (B.p s.b) (B.e s.b)) (mark m s.wb))) (add m (join m (A.e s.a) (mark m s.wa)) (B.p s.b));
  exit = λ s. join m (add m (A.e s.a) (join m (B.e s.b) (mark m s.wb))) (add m (mark m s.wa) (B.e s.b));
  next = λ s. situation (next_phase A s.a) (next_phase B s.b) 0 (s.wa || is_some (A.e s.a)) (s.wb || is_some (B.e s.b));
}
