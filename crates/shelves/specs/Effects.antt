-- What a call does, by its reply: the state afterwards as equations.
use Rattle.std.specs.Prelude.{◌≡◌, ℕ, zero, suc, ◌+◌, ◌*◌, ◌<◌, ◌≤◌, Bool, true, false, ◌≢◌, List, [], ◌∷◌, ◌++◌, length, Some, None, Option, slice_index_or, slice_set}
use Rattle.algebra.specs.declared.arc.Arc.{Arc}
use Rattle.algebra.specs.declared.label.Label.{Label}
use Rattle.algebra.specs.Model.{Model}
use Rattle.algebra.specs.Coefficients.{Coef, join}
use Rattle.rows.specs.Filled.{OfShelf}
use Rattle.rows.specs.Pieces.{Rows, size, pause_at, exit_at}
use Rattle.rows.specs.Repeats.{FirstRepeat}
use Rattle.rows.specs.Rules.Rule.{Rule, at, rows}
use Rattle.rows.specs.Rules.Table as table_rule
use Rattle.rows.specs.Rules.Loop as loop_rule
use Rattle.rows.specs.Unrolled.{Keeps}
use Rattle.runs.specs.Figure.{figure}
use Rattle.runs.specs.declared.step.Step.{Step}
use Rattle.runs.specs.declared.step.Step.TheVariants as step
use Rattle.shelves.specs.declared.call.Pairing.{Pairing}
use Rattle.shelves.specs.declared.call.Pairing.TheVariants.{Choice, Sequence, Fork, Abort}
use Rattle.shelves.specs.Calls.{Call, node, pause, table, pair, loop, clear, report, Report, Reply, accepted, reported, refused}
use Rattle.shelves.specs.Questions.{Yes, AllYes, FirstNo, pair_rule}
use Rattle.shelves.specs.Refusals.{order}
use Rattle.shelves.specs.State.{State, empty_shelf, shelf_at, shelf_rows}

-- the rows of a node: its weight on exit at tick 0
abbrev pub node_row : (m : Model) → Label → ℕ → Coef m × Coef m
node_row m l zero = (None, Some (m.weigh l))
node_row m l (suc n) = (None, None)

-- the rows of a pause: its weight on pause at tick 0, the unit on exit at tick 1
abbrev pub pause_row : (m : Model) → Label → ℕ → Coef m × Coef m
pause_row m l zero = (Some (m.weigh l), None)
pause_row m l (suc zero) = (None, Some m.unit)
pause_row m l (suc (suc n)) = (None, None)

-- the step that two steps put together make
abbrev pub pair_step : Pairing → ℕ → ℕ → Step
pair_step Choice i j = step.Choice i j
pair_step Sequence i j = step.Sequence i j
pair_step Fork i j = step.Fork i j
pair_step Abort i j = step.Abort i j

module _ (m : Model) where
  -- the cells of shelf k are all absent
  abbrev pub Blank : ℕ → List (Coef m) → Type 0
  Blank k cells = (j : ℕ) → OfShelf k j → slice_index_or cells j None ≡ None

  -- the rows are put on shelf k with their step, new arcs are recorded, and every other shelf, how many cells are lent
  -- and those from 4,096 on are as they were
  pub record Puts (row : ℕ → Coef m × Coef m) (k : ℕ) (made : Step) (more : List Arc) (s s' : State m) : Type 0 where
    pub transient : ℕ
    pub period : ℕ
    pub short : transient + period ≤ 64
    pub keeps : Keeps m row k transient period s'.cells
    pub others : (j : ℕ) → (OfShelf k j → ⊥) → slice_index_or s'.cells j None ≡ slice_index_or s.cells j None
    pub shelves : s'.shelves ≡ slice_set s.shelves k (record { step = Some (length s.steps); transient = transient; period = period })
    pub steps : s'.steps ≡ s.steps ++ made ∷ []
    pub arcs : s'.arcs ≡ s.arcs ++ more
    pub lent : s'.lent ≡ s.lent
    pub past : s'.past ≡ s.past

  -- shelf k is emptied, and everything else is as it was
  pub record Empties (k : ℕ) (s s' : State m) : Type 0 where
    pub blank : Blank k s'.cells
    pub others : (j : ℕ) → (OfShelf k j → ⊥) → slice_index_or s'.cells j None ≡ slice_index_or s.cells j None
    pub shelves : s'.shelves ≡ slice_set s.shelves k empty_shelf
    pub steps : s'.steps ≡ s.steps
    pub arcs : s'.arcs ≡ s.arcs
    pub lent : s'.lent ≡ s.lent
    pub past : s'.past ≡ s.past

  -- the reply is the number of the first situation that equals an earlier one
  abbrev pub Turns : Rule m → ℕ → Type 0
  Turns rule n = (n < 1024) × FirstRepeat (at rule) n

  -- shelf k holds step i
  abbrev pub Holds : State m → (k i : ℕ) → Type 0
  Holds s k i = (shelf_at s k).step ≡ Some i

  -- what an accepted call does
  abbrev pub Accepts : Call → ℕ → State m → State m → Type 0
  Accepts (node k l) n s s' = (n ≡ 0) × Puts (node_row m l) k (step.Node l) [] s s'
  Accepts (pause k l) n s s' = (n ≡ 0) × Puts (pause_row m l) k (step.Pause l) [] s s'
  Accepts (table k new) n s s' =
      Turns (table_rule.table m new) n × Puts (rows (table_rule.table m new)) k (step.Table (length s.arcs) (length new)) new s s'
  Accepts (pair kind a b) n s s' =
      let rule = pair_rule m kind (shelf_rows s a) (shelf_rows s b) in
      Turns rule n × ((i : ℕ) × (j : ℕ) × (between : State m) × Holds s a i × Holds s b j × Puts (rows rule) a (pair_step kind i j) [] s between × Empties b between s')
  Accepts (loop k) n s s' =
      let rule = loop_rule.loop m (shelf_rows s k) in
      Turns rule n × ((i : ℕ) × Holds s k i × Puts (rows rule) k (step.Repeat i) [] s s')
  Accepts (clear k) n s s' = (n ≡ 0) × Empties k s s'
  Accepts (report k) n s s' = ⊥

  -- the figure of two rows: their join over all phases
  abbrev pub figure_of : Rows m → Coef m
  figure_of a = figure m (pause_at a) (exit_at a) (size a)

  -- the first tick of a report: where the algebra chooses, the least tick at which both rows joined are the figure
  abbrev pub FirstTick : Bool → Coef m → Rows m → Option ℕ → Type 0
  FirstTick true figure given None = ⊥
  FirstTick true figure given (Some t) =
      (join m (pause_at given t) (exit_at given t) ≡ figure) × ((n : ℕ) → n < t → join m (pause_at given n) (exit_at given n) ≢ figure)
  FirstTick false figure given tick = tick ≡ None

  -- what report gives of a shelf's rows: their join over all phases, the first tick, and the shape
  pub record Reports (given : Rows m) (r : Report m) : Type 0 where
    pub figure : r.figure ≡ figure_of given
    pub tick : FirstTick m.chooses r.figure given r.tick
    pub transient : r.transient ≡ given.transient
    pub period : r.period ≡ given.period

  -- report is the call that is answered by a report
  abbrev pub Tells : Call → Report m → State m → Type 0
  Tells (report k) r s = Reports (shelf_rows s k) r
  Tells c r s = ⊥

  -- what a call does: it is refused by the first no and changes nothing, or every question says yes
  abbrev pub Does : Call → Reply m → State m → State m → Type 0
  Does c (refused r) s s' = FirstNo (Yes m s c) order r × (s' ≡ s)
  Does c (accepted n) s s' = AllYes (Yes m s c) order × Accepts c n s s'
  Does c (reported r) s s' = AllYes (Yes m s c) order × Tells c r s × (s' ≡ s)

  -- what a list of calls does, one after the other, each with its reply
  abbrev pub DoesAll : List Call → List (Reply m) → State m → State m → Type 0
  DoesAll [] replies s s' = s' ≡ s
  DoesAll (c ∷ calls) [] s s' = s' ≡ s
  DoesAll (c ∷ calls) (r ∷ replies) s s' = (between : State m) × Does c r s between × DoesAll calls replies between s'
