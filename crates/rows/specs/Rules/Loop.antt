-- Loop of A: whether this is tick 0, and the set M of phases in which A may be, empty at first.
use Rattle.std.specs.Prelude.{ℕ, Bool, true, false, cond, is_some, Some, None}
use Rattle.algebra.specs.Model.{Model}
use Rattle.algebra.specs.Coefficients.{Coef, join, add}
use Rattle.rows.specs.Pieces.{Rows, size, next_phase, moved}
use Rattle.rows.specs.Sets.{has, with_member, joins}
use Rattle.rows.specs.Rules.Rule.{Rule, situation}

-- S, the weight with which a round of A begins, is the unit at tick 0 and all A.e over M later
abbrev pub starts : (m : Model) (A : Rows m) → (zeroth : Bool) (set : ℕ) → Coef m
starts m A zeroth set = cond zeroth (Some m.unit) (joins m (has set) A.e (size A))

-- M moves on as in a sequence, by A.p, and the phase after 0 joins in where S is present
abbrev pub go_round : (m : Model) (A : Rows m) → (zeroth : Bool) (set : ℕ) → ℕ
go_round m A zeroth set = cond (is_some (starts m A zeroth set)) (with_member (moved A set) (next_phase A 0)) (moved A set)

-- pause is (S ⊙ A.p at 0) ⊕ all A.p over M; exit is always absent
abbrev pub loop : (m : Model) (A : Rows m) → Rule m
loop m A = record {
  first = situation 0 0 0 true false;
  pause = λ s. join m (add m (starts m A s.wa s.set) (A.p 0)) (joins m (has s.set) A.p (size A));
  exit = λ s. None;
  next = λ s. situation 0 0 (go_round m A s.wa s.set) false false;
}
