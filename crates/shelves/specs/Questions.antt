-- The questions that are asked before a call, and the first no.
use Rattle.std.specs.Prelude.{◌≡◌, ℕ, ◌+◌, ◌<◌, ◌≤◌, true, false, ◌≢◌, ◌⊎◌, List, [], ◌∷◌, length, is_some}
use mathlib.Core.List.{Memᴰ as Among}
use Rattle.std.specs.List.{AllByRecursion}
use Rattle.algebra.specs.declared.arc.Arc.{Arc}
use Rattle.algebra.specs.declared.label.Label.{Label}
use Rattle.algebra.specs.Model.{Model}
use Rattle.rows.specs.Pieces.{Rows, exit_at}
use Rattle.rows.specs.Repeats.{FirstRepeat, LeastShape}
use Rattle.rows.specs.Rules.Rule.{Rule, at, rows}
use Rattle.rows.specs.Rules.Table as table_rule
use Rattle.rows.specs.Rules.Choice as choice_rule
use Rattle.rows.specs.Rules.Sequence as sequence_rule
use Rattle.rows.specs.Rules.Loop as loop_rule
use Rattle.rows.specs.Rules.Fork as fork_rule
use Rattle.rows.specs.Rules.Abort as abort_rule
use Rattle.shelves.specs.declared.call.Pairing.{Pairing}
use Rattle.shelves.specs.declared.call.Pairing.TheVariants.{Choice, Sequence, Fork, Abort}
use Rattle.shelves.specs.declared.refusal.Refusal.{Refusal}
use Rattle.shelves.specs.declared.refusal.Refusal.TheVariants.{FewCells, NoShelf, SameShelf, ShelfTaken, ShelfEmpty, ManyCycles, BadArcs, StateWithoutArc, StepsFull, ArcsFull, LeavesAtOnce, NeverRepeats, TooLong}
use Rattle.shelves.specs.Calls.{Call, node, pause, table, pair, loop, clear, report, about, named}
use Rattle.shelves.specs.State.{State, holds_step, shelf_rows}

-- the cycles are within the limit
abbrev pub Light : Label → Type 0
Light label = label.cycles ≤ 1073741823

-- from a state, and to a state or out
abbrev pub LawfulArc : Arc → Type 0
LawfulArc arc = (arc.from ≤ 63) × ((arc.to ≤ 63) ⊎ (arc.to ≡ 255))

-- some arc begins at the state
abbrev pub Begins : List Arc → ℕ → Type 0
Begins arcs q = (arc : Arc) × Among arc arcs × (arc.from ≡ q)

-- the state is named by an arc, or lies below one that is
abbrev pub UpToNamed : List Arc → ℕ → Type 0
UpToNamed arcs q = (arc : Arc) × Among arc arcs × ((q ≤ arc.from) ⊎ ((q ≤ arc.to) × (arc.to ≤ 63)))

-- the working rule that puts two pieces together
abbrev pub pair_rule : (m : Model) → Pairing → Rows m → Rows m → Rule m
pair_rule m Choice = choice_rule.choice m
pair_rule m Sequence = sequence_rule.sequence m
pair_rule m Fork = fork_rule.fork m
pair_rule m Abort = abort_rule.abort m

-- no two are one
abbrev pub Distinct : List ℕ → Type 0
Distinct [] = Unit {0}
Distinct (k ∷ ks) = AllByRecursion (λ j. k ≢ j) ks × Distinct ks

-- does one of situations 0 to 1,023 equal an earlier one?
abbrev pub RepeatsSoon : {m : Model} → Rule m → Type 0
RepeatsSoon rule = (n : ℕ) × (n < 1024) × FirstRepeat (at rule) n

-- do the least transient and period of the rows come to at most 64?
abbrev pub Short : {m : Model} → Rule m → Type 0
Short rule = (transient : ℕ) × (period : ℕ) × LeastShape (rows rule) transient period × (transient + period ≤ 64)

module _ (m : Model) (s : State m) where
  -- the rule that a call unrolls
  abbrev pub unrolled : Call → List (Rule m)
  unrolled (node k l) = []
  unrolled (pause k l) = []
  unrolled (table k arcs) = table_rule.table m arcs ∷ []
  unrolled (pair kind a b) = pair_rule m kind (shelf_rows s a) (shelf_rows s b) ∷ []
  unrolled (loop k) = loop_rule.loop m (shelf_rows s k) ∷ []
  unrolled (clear k) = []
  unrolled (report k) = []

  -- the questions of a call, each by the refusal that its no gives; one that does not concern the call is yes
  abbrev pub Yes : Call → Refusal → Type 0
  Yes c FewCells = Unit {0}
  Yes c NoShelf = AllByRecursion (λ k. k ≤ 15) (named c)
  Yes c SameShelf = Distinct (named c)
  Yes c ShelfTaken = AllByRecursion (λ k. holds_step s.shelves k ≡ false) (about c).fresh
  Yes c ShelfEmpty = AllByRecursion (λ k. holds_step s.shelves k ≡ true) (about c).used
  Yes c ManyCycles = AllByRecursion Light (about c).labels
  Yes c BadArcs = AllByRecursion (λ arcs. (1 ≤ length arcs) × (length arcs ≤ 512) × AllByRecursion LawfulArc arcs) (about c).tables
  Yes c StateWithoutArc = AllByRecursion (λ arcs. (q : ℕ) → UpToNamed arcs q → Begins arcs q) (about c).tables
  Yes c StepsFull = (about c).builds ≡ true → length s.steps < 512
  Yes c ArcsFull = AllByRecursion (λ arcs. length s.arcs + length arcs ≤ 512) (about c).tables
  Yes c LeavesAtOnce = AllByRecursion (λ k. is_some (exit_at (shelf_rows s k) 0) ≡ false) (about c).looped
  Yes c NeverRepeats = AllByRecursion RepeatsSoon (unrolled c)
  Yes c TooLong = AllByRecursion Short (unrolled c)

-- every question says yes
abbrev pub AllYes : (Refusal → Type 0) → List Refusal → Type 0
AllYes yes_to [] = Unit {0}
AllYes yes_to (q ∷ qs) = yes_to q × AllYes yes_to qs

-- the first question that says no is r's
abbrev pub FirstNo : (Refusal → Type 0) → List Refusal → Refusal → Type 0
FirstNo yes_to [] r = ⊥
FirstNo yes_to (q ∷ qs) r = ((q ≡ r) × (yes_to q → ⊥)) ⊎ (yes_to q × FirstNo yes_to qs r)
