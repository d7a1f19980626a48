-- When a recorded step spells a plan.
use Rattle.std.specs.Prelude.{◌≡◌, ℕ, ◌+◌, ◌<◌, ◌≤◌, List, ◌++◌, length, take, drop, slice_index_or}
use Rattle.algebra.specs.declared.label.Label.{Label}
use Rattle.algebra.specs.declared.arc.Arc.{Arc as Recorded}
use Rattle.runs.specs.declared.step.Step.{Step}
use Rattle.runs.specs.declared.step.Step.TheVariants.{Node, Pause, Table, Choice, Sequence, Repeat, Fork, Abort}
use Rattle.runs.specs.Plan.{Arc, Plan, node, pause, table, choice, sequence, loop, fork, abort}
use Rattle.runs.specs.Arcs.{plan_arcs}

-- step i is within the list, and is s
abbrev pub StepIs : List Step → ℕ → Step → Type 0
StepIs steps i s = (i < length steps) × (slice_index_or steps i s ≡ s)

-- step i is a table of these arcs, which stand in a row among the recorded ones
pub record OfArcs (steps : List Step) (arcs : List Recorded) (i : ℕ) (list : List (Arc Label)) : Type 0 where
  pub first : ℕ
  pub count : ℕ
  pub is : StepIs steps i (Table first count)
  pub within : first + count ≤ length arcs
  pub made : list ≡ plan_arcs (take count (drop first arcs))

-- step i is made of an earlier step, of which P holds
pub record OverOne (steps : List Step) (i : ℕ) (make : ℕ → Step) (P : ℕ → Type 0) : Type 0 where
  pub of : ℕ
  pub is : StepIs steps i (make of)
  pub earlier : of < i
  pub spelled : P of

-- step i is made of two earlier steps, P of the first and Q of the second
pub record OverTwo (steps : List Step) (i : ℕ) (make : ℕ → ℕ → Step) (P Q : ℕ → Type 0) : Type 0 where
  pub first : ℕ
  pub second : ℕ
  pub is : StepIs steps i (make first second)
  pub first_earlier : first < i
  pub second_earlier : second < i
  pub first_spelled : P first
  pub second_spelled : Q second

-- step i is of the plan's kind, with its label or arcs, or over earlier steps that spell its parts
abbrev pub Spells : (steps : List Step) (arcs : List Recorded) (i : ℕ) → Plan Label → Type 0
Spells steps arcs i (node x) = StepIs steps i (Node x)
Spells steps arcs i (pause x) = StepIs steps i (Pause x)
Spells steps arcs i (table list) = OfArcs steps arcs i list
Spells steps arcs i (choice a b) = OverTwo steps i Choice (λ j. Spells steps arcs j a) (λ k. Spells steps arcs k b)
Spells steps arcs i (sequence a b) = OverTwo steps i Sequence (λ j. Spells steps arcs j a) (λ k. Spells steps arcs k b)
Spells steps arcs i (loop a) = OverOne steps i Repeat (λ j. Spells steps arcs j a)
Spells steps arcs i (fork a b) = OverTwo steps i Fork (λ j. Spells steps arcs j a) (λ k. Spells steps arcs k b)
Spells steps arcs i (abort h a) = OverTwo steps i Abort (λ j. Spells steps arcs j h) (λ k. Spells steps arcs k a)

-- recording later steps and arcs changes no plan that a step spells
abbrev pub SpellingStays : Type 0
SpellingStays =
    (steps later : List Step) (arcs more : List Recorded) (i : ℕ) (plan : Plan Label)
    → Spells steps arcs i plan → Spells (steps ++ later) (arcs ++ more) i plan

-- a step spells at most one plan
abbrev pub SpellsOne : Type 0
SpellsOne =
    (steps : List Step) (arcs : List Recorded) (i : ℕ) (plan plan' : Plan Label)
    → Spells steps arcs i plan → Spells steps arcs i plan' → plan ≡ plan'
