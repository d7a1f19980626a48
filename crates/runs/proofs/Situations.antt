-- The phases that the situations of a rule carry are those of their ticks.
use Rattle.std.proofs.Common.{◌≡◌, ℕ, zero, suc, ap, ◌∙◌}
use Rattle.algebra.specs.Model.{Model}
use Rattle.rows.specs.declared.situation.Situation.{Situation}
use Rattle.rows.specs.Phases.{phase}
use Rattle.rows.specs.Pieces.{Rows, next_phase}
use Rattle.rows.specs.Rules.Rule.{Rule, at}

-- a piece's phase at a tick
abbrev pub phase_of : {m : Model} → Rows m → ℕ → ℕ
phase_of A = phase A.transient A.period

module _ {m : Model} (rule : Rule m) (A : Rows m) where
  pub phase_a : rule.first.a ≡ 0 → ((s : Situation) → (rule.next s).a ≡ next_phase A s.a) → (n : ℕ) → (at rule n).a ≡ phase_of A n
  phase_a first next zero = first
  phase_a first next (suc n) = next (at rule n) ∙ ap (next_phase A) (phase_a first next n)

  pub phase_b : rule.first.b ≡ 0 → ((s : Situation) → (rule.next s).b ≡ next_phase A s.b) → (n : ℕ) → (at rule n).b ≡ phase_of A n
  phase_b first next zero = first
  phase_b first next (suc n) = next (at rule n) ∙ ap (next_phase A) (phase_b first next n)
