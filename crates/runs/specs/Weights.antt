-- The weights of runs.
use Rattle.std.specs.Prelude.{◌≡◌, ℕ, suc, List, [], ◌∷◌, length, slice_index_or}
use Rattle.algebra.specs.declared.label.Label.{Label}
use Rattle.algebra.specs.Model.{Model}
use Rattle.algebra.specs.Coefficients.{Coef}
use Rattle.runs.specs.Plan.{Plan}
use Rattle.runs.specs.Runs.{End, paused, left, Ticks, Runs}
use Rattle.runs.specs.Joined.{Joined}

-- over a model, and what each thing that a tick may hold weighs
module _ (m : Model) {X : Type 0} (weigh : X → m.Carrier) where
  -- the weight of a tick: the unit with the weights of what it holds added
  abbrev pub weight : List X → m.Carrier
  weight [] = m.unit
  weight (x ∷ xs) = m.add (weigh x) (weight xs)

  -- the weight of a run at tick n
  abbrev pub weight_at : Ticks X → ℕ → m.Carrier
  weight_at ts n = weight (slice_index_or ts n [])

  -- some run of the set has n + 1 ticks and the weight w at the last of them
  pub record Weighs (A : Ticks X → Type 0) (n : ℕ) (w : m.Carrier) : Type 0 where
    pub run : Ticks X
    pub of_set : A run
    pub long : length run ≡ suc n
    pub weighs : weight_at run n ≡ w

  -- c is the joined weight of the plan at n: over all its runs of that end and of n + 1 ticks, their weights at tick n
  abbrev pub JoinedWeight : Plan X → End → ℕ → Coef m → Type 0
  JoinedWeight plan end n c = Joined m (Weighs (Runs plan end) n) c

  -- p and e are the joined weights of the plan at every tick, paused and left
  pub record JoinedRows (plan : Plan X) (p e : ℕ → Coef m) : Type 0 where
    pub pauses : (n : ℕ) → JoinedWeight plan paused n (p n)
    pub leaves : (n : ℕ) → JoinedWeight plan left n (e n)

-- a plan has one joined weight at each tick, paused and left
abbrev pub RowsAreOne : Model → Type 0
RowsAreOne m =
    (plan : Plan Label) (p e p' e' : ℕ → Coef m) → JoinedRows m m.weigh plan p e → JoinedRows m m.weigh plan p' e'
    → (n : ℕ) → (p n ≡ p' n) × (e n ≡ e' n)
