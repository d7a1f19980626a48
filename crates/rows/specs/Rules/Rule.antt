-- A working rule: it carries a situation from tick to tick, and gives pause and exit at each.
use Rattle.std.specs.Prelude.{ℕ, zero, suc, Bool}
use Rattle.algebra.specs.Model.{Model}
use Rattle.algebra.specs.Coefficients.{Coef}
use Rattle.rows.specs.declared.situation.Situation.{Situation}

-- the first situation, the two coefficients at a situation, and the situation after it
pub record Rule (m : Model) : Type 0 where
  pub first : Situation
  pub pause : Situation → Coef m
  pub exit : Situation → Coef m
  pub next : Situation → Situation

-- the situation at tick n
abbrev pub at : {m : Model} → Rule m → ℕ → Situation
at rule zero = rule.first
at rule (suc n) = rule.next (at rule n)

-- the two rows of a rule, pause and exit, at tick n
abbrev pub rows : {m : Model} → Rule m → ℕ → Coef m × Coef m
rows rule n = (rule.pause (at rule n), rule.exit (at rule n))

-- the situation with these phases, this set and these marks
abbrev pub situation : (a b set : ℕ) (wa wb : Bool) → Situation
situation a b set wa wb = record { a = a; b = b; set = set; wa = wa; wb = wb }
