-- One shape for one meaning: rows in their least shape are kept in one way.
use Rattle.std.specs.Prelude.{◌≡◌, ℕ, ◌+◌, ◌*◌, ◌<◌, ◌≤◌, ◌↔◌, List, None, slice_index_or}
use Rattle.algebra.specs.Model.{Model}
use Rattle.algebra.specs.Coefficients.{Coef}
use Rattle.rows.specs.Pieces.{on_shelf, given_at}
use Rattle.rows.specs.Repeats.{LeastShape}

-- pause and exit at each tick
abbrev pub Pairs : Model → Type 0
Pairs m = ℕ → Coef m × Coef m

-- rows in their least shapes are equal at every tick exactly when their shapes are equal and they are equal up to transient plus period
abbrev pub RowsHaveOneShape : Model → Type 0
RowsHaveOneShape m =
    (r r' : Pairs m) (t d t' d' : ℕ) → LeastShape r t d → LeastShape r' t' d'
    → ((n : ℕ) → r n ≡ r' n) ↔ ((t ≡ t') × (d ≡ d') × ((k : ℕ) → k < t + d → r k ≡ r' k))

module _ (m : Model) (cells : List (Coef m)) (shelf : ℕ) where
  -- cell i of a shelf: 64 for pause, then 64 for exit
  abbrev pub cell : ℕ → Coef m
  cell i = slice_index_or cells (128 * shelf + i) None

  -- what the shelf gives at every tick
  abbrev pub given : (transient period : ℕ) → Pairs m
  given transient period = given_at (on_shelf m cells shelf transient period)

  -- the shelf gives rows of which this is the least shape, and its cells past the shape are absent
  pub record Shelved (transient period : ℕ) : Type 0 where
    pub fits : transient + period ≤ 64
    pub least : LeastShape (given transient period) transient period
    pub past_pause : (i : ℕ) → transient + period ≤ i → i < 64 → cell i ≡ None
    pub past_exit : (i : ℕ) → transient + period ≤ i → i < 64 → cell (64 + i) ≡ None

-- two shelves give equal rows at every tick exactly when they are equal in transient, period and all cells
abbrev pub ShelvesHaveOneShape : Model → Type 0
ShelvesHaveOneShape m =
    (cells cells' : List (Coef m)) (k k' t d t' d' : ℕ) → Shelved m cells k t d → Shelved m cells' k' t' d'
    → ((n : ℕ) → given m cells k t d n ≡ given m cells' k' t' d' n) ↔ ((t ≡ t') × (d ≡ d') × ((i : ℕ) → i < 128 → cell m cells k i ≡ cell m cells' k' i))
