-- Phases: where a tick falls in rows that repeat from a transient on with a period.
use Rattle.std.specs.Prelude.{◌≡◌, ℕ, zero, suc, ◌+◌, ◌-◌, ◌%◌, ◌<◌, ◌≤◌, cond, nat_lt}
use Rattle.rows.specs.declared.shape.Shape.{Shape}

-- k is a phase of the shape: it indexes a row of it
abbrev pub IsPhase : Shape → (k : ℕ) → Type 0
IsPhase shape k = k < shape.transient + shape.period

-- the phase after k: k + 1, or the transient where k + 1 reaches transient plus period
abbrev pub after : (transient period k : ℕ) → ℕ
after transient period k = cond (nat_lt (suc k) (transient + period)) (suc k) transient

-- the phase of tick n
abbrev pub phase : (transient period n : ℕ) → ℕ
phase transient period zero = 0
phase transient period (suc n) = after transient period (phase transient period n)

-- what holds of the phases of a shape
pub record Phases (transient period : ℕ) : Type 0 where
  -- a phase always indexes its row
  pub within : (n : ℕ) → phase transient period n < transient + period
  pub next : (n : ℕ) → phase transient period (suc n) ≡ after transient period (phase transient period n)
  -- up to the transient a tick is its own phase; from there on phases go round
  pub early : (n : ℕ) → n < transient → phase transient period n ≡ n
  pub late : (n : ℕ) → transient ≤ n → phase transient period n ≡ transient + (n - transient) % period
