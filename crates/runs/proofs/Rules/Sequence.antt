-- The sequence rule computes the sequence of its pieces' plans.
use Rattle.std.proofs.Common.{◌≡◌, ℕ, ◌≤◌, Bool, ◌&&◌, is_some, sym, refl, ap, ◌∙◌}
use Rattle.std.proofs.lemmas.Bool.{and_parts, and_from}
use Rattle.algebra.specs.Model.{Model, Laws}
use Rattle.algebra.specs.Coefficients.{add}
use Rattle.algebra.proofs.Coefficients.{coef_laws}
use Rattle.rows.specs.Sets.{has, joins as joins_in}
use Rattle.rows.specs.Pieces.{Rows, size, pause_at, exit_at}
use Rattle.rows.specs.Rules.Rule.{at, rows}
use Rattle.rows.specs.Rules.Sequence.{sequence as sequence_rule}
use Rattle.runs.specs.Plan.{Plan, sequence}
use Rattle.runs.specs.Weights.{JoinedRows}
use Rattle.runs.proofs.EachKind.{same_rows, sequence_rows}
use Rattle.runs.proofs.Situations.{phase_of, phase_a}
use Rattle.runs.proofs.Ages.{Ages, joins_ages}
use Rattle.runs.proofs.Rules.Lasting.{pauses_last, exits_last}

module _ (m : Model) (laws : Laws m) {X : Type 0} (weigh : X → m.Carrier) (A B : Rows m) (pos : 1 ≤ B.period) {a b : Plan X}
    (r : JoinedRows m weigh a (pause_at A) (exit_at A)) (s : JoinedRows m weigh b (pause_at B) (exit_at B)) where
  first : (n : ℕ) → (at (sequence_rule m A B) n).a ≡ phase_of A n
  first = phase_a (sequence_rule m A B) A refl (λ s. refl)

  -- what begins is a run of B where a run of A leaves, if B pauses at its first tick
  begins : ℕ → Bool
  begins n = is_some (A.e (at (sequence_rule m A B) n).a) && is_some (B.p 0)

  ages : Ages B (exit_at A) begins (λ n. (at (sequence_rule m A B) n).set)
  unfolding begins
  ages = record {
    first = refl;
    next = λ n. refl;
    began = λ n h. ap (λ (k : ℕ). is_some (A.e k)) (sym (first n)) ∙ (and_parts (is_some (A.e (at (sequence_rule m A B) n).a)) (is_some (B.p 0)) h).0;
    begun = λ n h p. and_from (is_some (A.e (at (sequence_rule m A B) n).a)) (is_some (B.p 0)) (ap (λ (k : ℕ). is_some (A.e k)) (first n) ∙ h) p;
  }

  pub sequence_computes : JoinedRows m weigh (sequence a b) (λ n. (rows (sequence_rule m A B) n).0) (λ n. (rows (sequence_rule m A B) n).1)
  sequence_computes = same_rows m laws weigh (sequence_rows m laws weigh r s)
      (λ n. (cc (
        first n,
        joins_ages m laws ages pos B.p (pauses_last m laws weigh B s) n,
        (coef_laws m laws).join_assoc (pause_at A n) (add m (exit_at A n) (B.p 0)) (joins_in m (has (at (sequence_rule m A B) n).set) B.p (size B)),
      )))
      (λ n. (cc (first n, joins_ages m laws ages pos B.e (exits_last m laws weigh B s) n)))
