-- The promise of every call, `Answers`, from below: what a filled shelf is, what a report tells, what a history keeps.
use Rattle.std.specs.Prelude.{◌≡◌, ℕ, ◌≤◌, true, false, ◌↔◌, List, [], ◌∷◌, Some, None, Option}
use Rattle.algebra.specs.declared.label.Label.{Label}
use Rattle.algebra.specs.Model.{Model}
use Rattle.rows.specs.Pieces.{pause_at, exit_at, given_at}
use Rattle.rows.specs.Repeats.{LeastShape}
use Rattle.runs.specs.Figure.{Covers, FirstAt}
use Rattle.runs.specs.Plan.{Plan}
use Rattle.runs.specs.Steps.{Spells}
use Rattle.runs.specs.Weights.{JoinedRows}
use Rattle.shelves.specs.Book.{Pages, book}
use Rattle.shelves.specs.Calls.{Call, report, Report, Reply, reported, Event}
use Rattle.shelves.specs.Effects.{Blank, Does}
use Rattle.shelves.specs.History.{Made, Answered}
use Rattle.shelves.specs.Meaning.{SameShelves, SameWeights, Shaped}
use Rattle.shelves.specs.State.{State, empty_shelf, shelf_at, shelf_rows}

module _ (m : Model) where
  -- shelf k holds a step that spells the plan, and gives at every tick the joined weights of its runs, paused and left;
  -- its transient and period are the least with which they repeat
  pub record Filled (s : State m) (k : ℕ) (plan : Plan Label) : Type 0 where
    pub step : ℕ
    pub holds : (shelf_at s k).step ≡ Some step
    pub spells : Spells s.steps s.arcs step plan
    pub gives : JoinedRows m m.weigh plan (pause_at (shelf_rows s k)) (exit_at (shelf_rows s k))
    pub least : LeastShape (given_at (shelf_rows s k)) (shelf_at s k).transient (shelf_at s k).period

  -- a shelf is filled exactly when the book holds a plan for it; where it holds none, the shelf is the empty one and its
  -- cells are all absent
  abbrev pub AsBooked : State m → ℕ → Option (Plan Label) → Type 0
  AsBooked s k None = (shelf_at s k ≡ empty_shelf) × Blank m k s.cells
  AsBooked s k (Some plan) = Filled s k plan

  -- there is a figure: no weight at any tick of any run of the plan betters it, and it is the join of some of them;
  -- where the algebra chooses, some run has the figure at the named tick and none at an earlier one, else no tick is named;
  -- and the shape is the plan's
  pub record Figured (plan : Plan Label) (r : Report m) : Type 0 where
    pub figure : m.Carrier
    pub is : r.figure ≡ Some figure
    pub covers : Covers m m.weigh plan (Some figure)
    pub first : m.chooses ≡ true → (t : ℕ) × (r.tick ≡ Some t) × FirstAt m m.weigh plan t figure
    pub unnamed : m.chooses ≡ false → r.tick ≡ None
    pub shape : Shaped m plan r.transient r.period

  -- an accepted report is of the plan that the book held
  abbrev pub Told : Call → Reply m → Pages → Type 0
  Told (report k) (reported r) pages = (plan : Plan Label) × (pages k ≡ Some plan) × Figured plan r
  Told c reply pages = Unit {0}

  -- every accepted report of the history
  abbrev pub AllTold : List (Event m) → Type 0
  AllTold [] = Unit {0}
  AllTold (e ∷ h) = Told e.call e.reply (book h) × AllTold h

  -- the promise: calls are answered as the questions say; each shelf is as its page says; every report covers its plan;
  -- and two filled shelves are equal exactly when their plans' joined weights are
  pub record Kept (h : List (Event m)) (s : State m) : Type 0 where
    pub answered : Answered m h
    pub booked : (k : ℕ) → k ≤ 15 → AsBooked s k (book h k)
    pub told : AllTold h
    pub one_meaning : (j k : ℕ) (a b : Plan Label) → j ≤ 15 → k ≤ 15 → book h j ≡ Some a → book h k ≡ Some b → SameShelves m s j k ↔ SameWeights m a b

  -- a call with its reply takes the rack from s to s' as the questions and its effect say; and if a history has made s,
  -- then the history with this call added has made s', and the promise is kept of it
  pub record Answers (call : Call) (reply : Reply m) (s s' : State m) : Type 0 where
    pub does : Does m call reply s s'
    pub made : (h : List (Event m)) → Made m h s → Made m (record { call = call; reply = reply } ∷ h) s'
    pub kept : (h : List (Event m)) → Made m h s → Kept (record { call = call; reply = reply } ∷ h) s'
