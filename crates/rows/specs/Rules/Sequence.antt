-- Sequence of A and B: the phase of A, and the set M of phases in which a B begun earlier may be, empty at first.
use Rattle.std.specs.Prelude.{ℕ, false, cond, ◌&&◌, is_some}
use Rattle.algebra.specs.Model.{Model}
use Rattle.algebra.specs.Coefficients.{join, add}
use Rattle.rows.specs.Pieces.{Rows, size, next_phase, moved}
use Rattle.rows.specs.Sets.{has, with_member, joins}
use Rattle.rows.specs.Rules.Rule.{Rule, situation}

-- M moves on: a member whose B.p is present goes to the phase after it, the others drop out, and where A.e meets a B.p at 0,
-- both present, the phase after 0 joins in
abbrev pub follow_on : {m : Model} (A B : Rows m) → (phase set : ℕ) → ℕ
follow_on A B phase set = cond (is_some (A.e phase) && is_some (B.p 0)) (with_member (moved B set) (next_phase B 0)) (moved B set)

-- pause is A.p ⊕ (A.e ⊙ B.p at 0) ⊕ all B.p over M; exit is (A.e ⊙ B.e at 0) ⊕ all B.e over M
abbrev pub sequence : (m : Model) (A B : Rows m) → Rule m
sequence m A B = record {
  first = situation 0 0 0 false false;
  pause = λ s. join m (join m (A.p s.a) (add m (A.e s.a) (B.p 0))) (joins m (has s.set) B.p (size B));
  exit = λ s. join m (add m (A.e s.a) (B.e 0)) (joins m (has s.set) B.e (size B));
  next = λ s. situation (next_phase A s.a) 0 (follow_on A B s.a s.set) false false;
}
