-- The rows of each kind of plan at a tick, from the rows of its pieces.
use Rattle.std.proofs.Common.{◌≡◌, ℕ, zero, suc, ◌-◌, Bool, true, false, List, Some, None}
use mathlib.Core.List.{Memᴰ as Among}
use Rattle.algebra.specs.Model.{Model}
use Rattle.algebra.specs.Coefficients.{Coef, join, add}
use Rattle.runs.specs.Plan.{Lead, state, out, Arc}
use Rattle.runs.specs.Runs.{End, paused, left}
use Rattle.runs.specs.Joined.{joins}
use Rattle.runs.proofs.Joined.{gate, joins_over}

-- the states that a table has reached after n ticks: first 0, then those that arcs from such states lead to
abbrev pub Reached : {X : Type 0} → List (Arc X) → ℕ → ℕ → Type 0
Reached arcs zero s = s ≡ 0
Reached {X} arcs (suc n) s = (a : Arc X) × Among a arcs × Reached arcs n a.from × (a.lead ≡ state s)

module _ (m : Model) where
  -- a first run that ends at tick n with a second that begins there, or that ended k + 1 ticks before
  abbrev pub tied_row : (a b : ℕ → Coef m) → ℕ → Coef m
  tied_row a b n = join m (add m (a n) (b 0)) (joins m (λ k. gate m (a (n - suc k)) (b (suc k))) n)

  abbrev pub sequence_pauses : (pa ea pb : ℕ → Coef m) → ℕ → Coef m
  sequence_pauses pa ea pb n = join m (pa n) (tied_row ea pb n)

  -- S n: what the runs before one that begins at tick n leave in that tick; e 0 is absent
  pub record Starts (e S : ℕ → Coef m) : Type 0 where
    pub first : S 0 ≡ Some m.unit
    pub next : (n : ℕ) → S (suc n) ≡ joins m (λ k. gate m (S (suc n - suc k)) (e (suc k))) (suc n)

  -- the unit where a run has left before tick n
  abbrev pub mark : (e : ℕ → Coef m) → ℕ → Coef m
  mark e zero = None
  mark e (suc n) = gate m (join m (mark e n) (e n)) (Some m.unit)

  abbrev pub fork_pauses : (pa ea pb eb : ℕ → Coef m) → ℕ → Coef m
  fork_pauses pa ea pb eb n =
      join m (add m (pa n) (join m (pb n) (join m (eb n) (mark eb n)))) (add m (join m (ea n) (mark ea n)) (pb n))

  abbrev pub fork_leaves : (ea eb : ℕ → Coef m) → ℕ → Coef m
  fork_leaves ea eb n = join m (add m (ea n) (join m (eb n) (mark eb n))) (add m (mark ea n) (eb n))

  -- the unit where a run is still there when tick n begins
  abbrev pub alive : (p : ℕ → Coef m) → ℕ → Coef m
  alive p zero = Some m.unit
  alive p (suc n) = gate m (p n) (Some m.unit)

  abbrev pub abort_leaves : (ph eh pa ea : ℕ → Coef m) → ℕ → Coef m
  abort_leaves ph eh pa ea n = join m (add m (eh n) (alive pa n)) (add m (ph n) (ea n))

  -- what an arc adds to the row of an end, where its state is reached
  abbrev pub arc_cell : End → Bool → Lead → m.Carrier → Coef m
  arc_cell e false lead w = None
  arc_cell paused true (state s) w = Some w
  arc_cell paused true out w = None
  arc_cell left true (state s) w = None
  arc_cell left true out w = Some w

  -- the join over the arcs whose states are reached at n, each by R
  abbrev pub table_row : {X : Type 0} → (X → m.Carrier) → (ℕ → ℕ → Bool) → List (Arc X) → End → ℕ → Coef m
  table_row weigh R arcs e n = joins_over m (λ a. arc_cell e (R n a.from) a.lead (weigh a.label)) arcs
