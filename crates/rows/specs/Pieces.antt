-- The rows of a piece, and where a shelf keeps them.
use Rattle.std.specs.Prelude.{ℕ, ◌+◌, ◌*◌, ◌&&◌, List, map, take, is_some, None, Option, slice_index_or}
use Rattle.std.specs.Option.{option_map}
use Rattle.algebra.specs.Model.{Model}
use Rattle.algebra.specs.Coefficients.{Coef}
use Rattle.rows.specs.declared.cells.Cells.{Cells}
use Rattle.rows.specs.declared.cells.Read.{Read}
use Rattle.rows.specs.declared.piece.Piece.{Piece}
use Rattle.rows.specs.declared.piece.Row.{Row}
use Rattle.rows.specs.declared.piece.Row.TheVariants.{Pause, Exit}
use Rattle.rows.specs.Phases.{phase, after}
use Rattle.rows.specs.Sets.{has, image}

-- two rows that repeat from the transient on with the period: the coefficients of pause, p, and of exit, e, at each phase
pub record Rows (m : Model) : Type 0 where
  pub transient : ℕ
  pub period : ℕ
  pub p : ℕ → Coef m
  pub e : ℕ → Coef m

-- one of the two rows
abbrev pub row : {m : Model} → Rows m → Row → ℕ → Coef m
row a Pause = a.p
row a Exit = a.e

-- how many phases there are
abbrev pub size : {m : Model} → Rows m → ℕ
size a = a.transient + a.period

-- the phase after k
abbrev pub next_phase : {m : Model} → Rows m → ℕ → ℕ
next_phase a = after a.transient a.period

-- the phase after each member of a set with p present
abbrev pub moved : {m : Model} → Rows m → (set : ℕ) → ℕ
moved a set = image (λ k. has set k && is_some (a.p k)) (next_phase a) (size a)

-- the pause coefficient at tick n
abbrev pub pause_at : {m : Model} → Rows m → ℕ → Coef m
pause_at a n = a.p (phase a.transient a.period n)

-- the exit coefficient at tick n
abbrev pub exit_at : {m : Model} → Rows m → ℕ → Coef m
exit_at a n = a.e (phase a.transient a.period n)

-- both rows at tick n: what a shelf gives there
abbrev pub given_at : {m : Model} → Rows m → ℕ → Coef m × Coef m
given_at a n = (pause_at a n, exit_at a n)

-- what lent cells mean
abbrev pub meanings : {V C : Type 0} → (V → C) → List (Option V) → List (Option C)
meanings means = map (option_map means)

-- the rows of a shelf's cells, 64 for pause and then 64 for exit, at a shape
abbrev pub on_shelf : (m : Model) → List (Coef m) → (shelf transient period : ℕ) → Rows m
on_shelf m cells shelf transient period = record {
  transient = transient;
  period = period;
  p = λ k. slice_index_or cells (128 * shelf + k) None;
  e = λ k. slice_index_or cells (128 * shelf + 64 + k) None;
}

-- the rows of a piece
abbrev pub rows_of : (m : Model) → List (Coef m) → Piece → Rows m
rows_of m cells a = on_shelf m cells a.place.shelf a.shape.transient a.shape.period

-- what the shelves' cells mean, of all that are lent
abbrev pub on_shelves : {V C : Type 0} → (V → C) → Cells V → List (Option C)
on_shelves means cells = meanings means (take 2048 cells.lent.now)

-- what the kept cells mean
abbrev pub known : {V C : Type 0} → (V → C) → Read V 2048 → List (Option C)
known means kept = meanings means kept.cells.now

-- the rows of a piece over what is kept
abbrev pub given : (m : Model) {V : Type 0} → (V → m.Carrier) → Read V 2048 → Piece → Rows m
given m means kept = rows_of m (known means kept)
