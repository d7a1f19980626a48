-- The joined weight of a set of weights.
use Rattle.std.specs.Prelude.{◌≡◌, ℕ, zero, suc, List, [], ◌∷◌, map, Some, None}
use Rattle.algebra.specs.Model.{Model}
use Rattle.algebra.specs.Coefficients.{Coef, join}

module _ (m : Model) where
  -- the join of a list of weights, absent for the empty list
  abbrev pub joined : List m.Carrier → Coef m
  joined [] = None
  joined (w ∷ ws) = join m (Some w) (joined ws)

  -- c is the joined weight of W: every member joined with c is c, and c is the join of a finite list of members
  pub record Joined (W : m.Carrier → Type 0) (c : Coef m) : Type 0 where
    pub upper : (w : m.Carrier) → W w → join m (Some w) c ≡ c
    pub members : List ((w : m.Carrier) × W w)
    pub made : c ≡ joined (map (λ w. w.0) members)

  -- the join of f 0 to f (n - 1)
  abbrev pub joins : (ℕ → Coef m) → ℕ → Coef m
  joins f zero = None
  joins f (suc n) = join m (joins f n) (f n)
