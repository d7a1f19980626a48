-- The loop rule computes the loop of its piece's plan.
use Rattle.std.proofs.Common.{◌≡◌, ℕ, suc, ◌≤◌, is_some, None, sym, refl, ap}
use Rattle.algebra.specs.Model.{Model, Laws}
use Rattle.algebra.specs.Coefficients.{Coef, join, add}
use Rattle.rows.specs.Pieces.{Rows, pause_at, exit_at}
use Rattle.rows.specs.Rules.Rule.{at, rows}
use Rattle.rows.specs.Rules.Loop.{loop as loop_rule, starts as starts_in}
use Rattle.runs.specs.Plan.{Plan, loop}
use Rattle.runs.specs.Weights.{JoinedRows}
use Rattle.runs.proofs.Forms.{Starts}
use Rattle.runs.proofs.EachKind.{same_rows, loop_rows}
use Rattle.runs.proofs.Ages.{Ages, joins_ages}
use Rattle.runs.proofs.Rules.Lasting.{pauses_last, exits_last}

-- the rule's S at tick n
abbrev start : (m : Model) → Rows m → ℕ → Coef m
start m A n = starts_in m A (at (loop_rule m A) n).wa (at (loop_rule m A) n).set

module _ (m : Model) (laws : Laws m) {X : Type 0} (weigh : X → m.Carrier) (A : Rows m) (pos : 1 ≤ A.period) {a : Plan X}
    (r : JoinedRows m weigh a (pause_at A) (exit_at A)) where
  ages : Ages A (start m A) (λ n. is_some (start m A n)) (λ n. (at (loop_rule m A) n).set)
  ages = record { first = refl; next = λ n. refl; began = λ n h. h; begun = λ n h p. h }

  starts : Starts m (exit_at A) (start m A)
  starts = record { first = refl; next = λ n. joins_ages m laws ages pos A.e (exits_last m laws weigh A r) (suc n) }

  pub loop_computes : exit_at A 0 ≡ None → JoinedRows m weigh (loop a) (λ n. (rows (loop_rule m A) n).0) (λ n. (rows (loop_rule m A) n).1)
  loop_computes no_instant = same_rows m laws weigh (loop_rows m laws weigh r no_instant starts)
      (λ n. sym (ap (join m (add m (start m A n) (A.p 0))) (joins_ages m laws ages pos A.p (pauses_last m laws weigh A r) n)))
      (λ n. refl)
