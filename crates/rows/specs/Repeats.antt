-- Situations that come again, and rows that repeat.
use Rattle.std.specs.Prelude.{◌≡◌, ℕ, ◌+◌, ◌<◌, ◌≤◌, ◌≢◌}

-- none of the situations 0 to n - 1 equals an earlier one
abbrev pub NoRepeat : {S : Type 0} → (ℕ → S) → ℕ → Type 0
NoRepeat at n = (j k : ℕ) → j < k → k < n → at j ≢ at k

-- n is the least number whose situation equals an earlier one's
pub record FirstRepeat {S : Type 0} (at : ℕ → S) (n : ℕ) : Type 0 where
  pub earlier : (i : ℕ) × (i < n) × (at i ≡ at n)
  pub fresh : NoRepeat at n

-- from the transient on, the row repeats with the period
abbrev pub Repeats : {X : Type 0} → (ℕ → X) → (transient period : ℕ) → Type 0
Repeats row transient period = (n : ℕ) → transient ≤ n → row (n + period) ≡ row n

-- no smaller period repeats from any tick on, and with this period no smaller transient does
pub record LeastShape {X : Type 0} (row : ℕ → X) (transient period : ℕ) : Type 0 where
  pub positive : 1 ≤ period
  pub repeats : Repeats row transient period
  pub least_period : (t d : ℕ) → 1 ≤ d → Repeats row t d → period ≤ d
  pub least_transient : (t : ℕ) → Repeats row t period → transient ≤ t
