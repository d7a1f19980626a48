-- How the least shape is looked for: in the rows noted up to the first repeated situation.
use Rattle.std.specs.Prelude.{◌≡◌, ℕ, ◌+◌, ◌-◌, ◌<◌, ◌≤◌, cond, List, None, ◌≢◌, nat_lt, slice_index_or}
use Rattle.algebra.specs.Model.{Model}
use Rattle.algebra.specs.Coefficients.{Coef}
use Rattle.rows.specs.declared.cells.Read.{Read}
use Rattle.rows.specs.Pieces.{meanings}

-- pause and exit at tick k as the working cells have them
abbrev pub noted : (m : Model) → List (Coef m) → ℕ → Coef m × Coef m
noted m cells k = (slice_index_or cells (2048 + k) None, slice_index_or cells (3072 + k) None)

-- as a rack's room has them, by their meaning
abbrev pub noted_in : (m : Model) {V : Type 0} → (V → m.Carrier) → Read V 4096 → ℕ → Coef m × Coef m
noted_in m means room = noted m (meanings means room.cells.now)

-- a tick of the round after the one from i up to n, taken back into that one
abbrev pub folded : (i n k : ℕ) → ℕ
folded i n k = cond (nat_lt k n) k (k - (n - i))

-- the round from i up to n has the period d
abbrev pub RoundHas : {X : Type 0} → (ℕ → X) → (i n d : ℕ) → Type 0
RoundHas row i n d = (k : ℕ) → i ≤ k → k < n → row (folded i n (k + d)) ≡ row k

-- d is the least period of the round from i up to n
pub record LeastPeriod {X : Type 0} (row : ℕ → X) (i n d : ℕ) : Type 0 where
  pub positive : 1 ≤ d
  pub within : d ≤ n - i
  pub round : RoundHas row i n d
  pub least : (c : ℕ) → 1 ≤ c → c < d → RoundHas row i n c → ⊥

-- t is the least tick from which the row has the period d up to i
pub record LeastTransient {X : Type 0} (row : ℕ → X) (i d t : ℕ) : Type 0 where
  pub within : t ≤ i
  pub back : (k : ℕ) → t ≤ k → k < i → row (k + d) ≡ row k
  pub least : (k : ℕ) → t ≡ k + 1 → row (k + d) ≢ row k
