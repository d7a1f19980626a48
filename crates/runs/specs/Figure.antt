-- The figure of a plan, which covers every tick of every run, and the first tick that reaches it.
use Rattle.std.specs.Prelude.{◌≡◌, ℕ, ◌<◌, true, ◌≢◌, List, map, length, Some}
use Rattle.algebra.specs.declared.label.Label.{Label}
use Rattle.algebra.specs.Model.{Model}
use Rattle.algebra.specs.Coefficients.{Coef, join}
use Rattle.runs.specs.Plan.{Plan}
use Rattle.runs.specs.Runs.{End, Ticks, Runs}
use Rattle.runs.specs.Joined.{joined, joins}
use Rattle.runs.specs.Weights.{weight_at, Weighs, JoinedRows}

-- a value betters a figure when their join is not the figure
abbrev pub Betters : (m : Model) → m.Carrier → Coef m → Type 0
Betters m w f = join m (Some w) f ≢ f

-- each tick has both coefficients of some tick below N
abbrev pub Repeats : (m : Model) → (p e : ℕ → Coef m) → ℕ → Type 0
Repeats m p e N = (n : ℕ) → (k : ℕ) × (k < N) × (p n ≡ p k) × (e n ≡ e k)

-- the join of both rows over the ticks below N
abbrev pub figure : (m : Model) → (p e : ℕ → Coef m) → ℕ → Coef m
figure m p e N = joins m (λ n. join m (p n) (e n)) N

module _ (m : Model) {X : Type 0} (weigh : X → m.Carrier) where
  -- some run of the plan weighs w at its tick n, the last or an earlier one
  pub record Occurs (plan : Plan X) (n : ℕ) (w : m.Carrier) : Type 0 where
    pub end : End
    pub run : Ticks X
    pub of_plan : Runs plan end run
    pub within : n < length run
    pub weighs : weight_at m weigh run n ≡ w

  -- f is the join of some weights at ticks of runs, and no such weight betters it
  pub record Covers (plan : Plan X) (f : Coef m) : Type 0 where
    pub some_weights : List ((w : m.Carrier) × ((n : ℕ) × Occurs plan n w))
    pub made : f ≡ joined m (map (λ w. w.0) some_weights)
    pub unbettered : (n : ℕ) (w : m.Carrier) → Occurs plan n w → Betters m w f → ⊥

  -- some run of t + 1 ticks weighs w at its last, and none weighs w at an earlier tick
  pub record FirstAt (plan : Plan X) (t : ℕ) (w : m.Carrier) : Type 0 where
    pub end : End
    pub reached : Weighs m weigh (Runs plan end) t w
    pub earlier : (n : ℕ) → n < t → Occurs plan n w → ⊥

-- the figure covers every tick of every run
abbrev pub FigureCovers : Model → Type 0
FigureCovers m =
    (plan : Plan Label) (p e : ℕ → Coef m) → JoinedRows m m.weigh plan p e → (N : ℕ) → Repeats m p e N
    → Covers m m.weigh plan (figure m p e N)

-- where the algebra chooses, the least tick whose coefficients join to the figure is the first at which a run reaches it
abbrev pub FirstTick : Model → Type 0
FirstTick m =
    m.chooses ≡ true → (plan : Plan Label) (p e : ℕ → Coef m) → JoinedRows m m.weigh plan p e → (N : ℕ) → Repeats m p e N
    → (w : m.Carrier) → figure m p e N ≡ Some w
    → (t : ℕ) → join m (p t) (e t) ≡ Some w → ((n : ℕ) → n < t → join m (p n) (e n) ≢ Some w) → FirstAt m m.weigh plan t w
