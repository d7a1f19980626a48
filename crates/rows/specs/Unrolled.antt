-- What it is to unroll a rule onto a shelf.
use Rattle.std.specs.Prelude.{◌≡◌, ℕ, ◌+◌, ◌*◌, ◌<◌, ◌≤◌, List, None, slice_index_or}
use Rattle.algebra.specs.Model.{Model}
use Rattle.algebra.specs.Coefficients.{Coef}
use Rattle.rows.specs.Pieces.{on_shelf, given_at}
use Rattle.rows.specs.Repeats.{NoRepeat, FirstRepeat, LeastShape}
use Rattle.rows.specs.Rules.Rule.{Rule, at, rows}

-- a shelf keeps the rows: the shape is their least one, the shelf gives them at every tick, and it is absent past the shape
pub record Keeps (m : Model) (row : ℕ → Coef m × Coef m) (shelf transient period : ℕ) (cells : List (Coef m)) : Type 0 where
  pub least : LeastShape row transient period
  pub gives : (n : ℕ) → given_at (on_shelf m cells shelf transient period) n ≡ row n
  pub no_pause : (k : ℕ) → transient + period ≤ k → k < 64 → slice_index_or cells (128 * shelf + k) None ≡ None
  pub no_exit : (k : ℕ) → transient + period ≤ k → k < 64 → slice_index_or cells (128 * shelf + 64 + k) None ≡ None

module _ {m : Model} (rule : Rule m) where
  -- the rule is unrolled: the reply is the first repeated situation's number, and the shelf keeps the rule's two rows
  pub record Unrolls (reply shelf transient period : ℕ) (after : List (Coef m)) : Type 0 where
    pub soon : reply < 1024
    pub first : FirstRepeat (at rule) reply
    pub keeps : Keeps m (rows rule) shelf transient period after

  -- no situation is repeated soon enough
  abbrev pub NeverSoon : Type 0
  NeverSoon = NoRepeat (at rule) 1024

  -- a situation is repeated, and the least shape is too long for a shelf
  pub record TooLong : Type 0 where
    pub reply : ℕ
    pub transient : ℕ
    pub period : ℕ
    pub soon : reply < 1024
    pub first : FirstRepeat (at rule) reply
    pub least : LeastShape (rows rule) transient period
    pub long : 64 < transient + period
