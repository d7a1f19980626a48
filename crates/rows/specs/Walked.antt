-- How far a walk has come.
use Rattle.std.specs.Prelude.{◌≡◌, ℕ, ◌<◌, ◌≤◌, List}
use Rattle.algebra.specs.Model.{Model}
use Rattle.algebra.specs.Coefficients.{Coef}
use Rattle.rows.specs.declared.situation.Situation.{Situation}
use Rattle.rows.specs.Repeats.{NoRepeat}
use Rattle.rows.specs.Rules.Rule.{Rule, at, rows}
use Rattle.rows.specs.Search.{noted}
use Rattle.rows.specs.Situations.{nth}

module _ {m : Model} (rule : Rule m) where
  -- n ticks of a rule are noted, and s is the situation at tick n
  pub record Walked (n : ℕ) (s : Situation) (situations : List Situation) (cells : List (Coef m)) : Type 0 where
    pub here : s ≡ at rule n
    pub seen : (k : ℕ) → 0 ≤ k → k < n → nth situations k ≡ at rule k
    pub fresh : NoRepeat (at rule) n
    pub kept : (k : ℕ) → 0 ≤ k → k < n → noted m cells k ≡ rows rule k

  -- situation n is the first that equals an earlier one, the one with the number i, and the rows of those before it are noted
  abbrev pub Comes : List (Coef m) → (i n : ℕ) → Type 0
  Comes cells i n = (at rule i ≡ at rule n) × NoRepeat (at rule) n × ((k : ℕ) → k < n → noted m cells k ≡ rows rule k)
