-- The phases of a figure are their own ticks, and where the algebra chooses, one of them has the figure.
use Rattle.std.proofs.Common.{◌≡◌, ℕ, zero, suc, ◌+◌, ◌<◌, ◌≤◌, ◌≢◌, ◌⊎◌, Some, None, sym, refl, ap, ◌∙◌, inl, inr, ⊎_elim, arith}
use Rattle.algebra.specs.Model.{Model}
use Rattle.algebra.specs.Coefficients.{Coef, join}
use Rattle.rows.specs.Phases.{phase, after}
use Rattle.rows.specs.Pieces.{Rows, size, pause_at, exit_at}
use Rattle.rows.proofs.PhaseLaws.{after_below}
use Rattle.runs.specs.Joined.{joins}

-- up to the end of the first round a tick is its own phase
phase_own : (t d k : ℕ) → k < t + d → phase t d k ≡ k
phase_own t d zero less = refl
phase_own t d (suc k) less = ap (after t d) (phase_own t d k (omega arith)) ∙ after_below t d k less

-- both rows joined at a phase are both rows joined at that tick
pub both_at : (m : Model) (a : Rows m) (k : ℕ) → k < size a → (p e both : Coef m) → both ≡ join m p e → p ≡ a.p k → e ≡ a.e k → both ≡ join m (pause_at a k) (exit_at a k)
both_at m a k less p e both h pause exit =
    h ∙ ap (λ c. join m c e) pause ∙ ap (join m (a.p k)) exit
    ∙ sym (ap (λ (j : ℕ). join m (a.p j) (a.e j)) (phase_own a.transient a.period k less))

module _ (m : Model) (chosen : (a b : m.Carrier) → (m.join a b ≡ a) ⊎ (m.join a b ≡ b)) where
  -- the join of two coefficients is one of them
  join_one : (a b : Coef m) → (join m a b ≡ a) ⊎ (join m a b ≡ b)
  join_one None b = inr refl
  join_one (Some x) None = inl refl
  join_one (Some x) (Some y) = ⊎_elim (λ e. inl (ap Some e)) (λ e. inr (ap Some e)) (chosen x y)

  -- the join of one or more is one of them
  joins_one : (f : ℕ → Coef m) (n : ℕ) → (k : ℕ) × (k < suc n) × (joins m f (suc n) ≡ f k)
  joins_one f zero = (0, omega arith, refl)
  joins_one f (suc n) =
      let earlier = joins_one f n in
      ⊎_elim
      (λ e. (earlier.0, omega (arith, earlier.1), e ∙ earlier.2))
      (λ e. (suc n, omega arith, e))
      (join_one (joins m f (suc n)) (f (suc n)))

  -- so not all of them differ from it
  pub reached : (f : ℕ → Coef m) (n : ℕ) → 1 ≤ n → ((k : ℕ) → k < n → f k ≢ joins m f n) → ⊥
  reached f zero some differ = omega arith
  reached f (suc n) some differ =
      let one = joins_one f n in differ one.0 one.1 (sym one.2)
