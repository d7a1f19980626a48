-- What the functions inside a rack do, said of what it holds before and after.
use Rattle.std.specs.Prelude.{ℕ, List, Result}
use Rattle.algebra.specs.declared.arc.Arc.{Arc}
use Rattle.algebra.specs.Model.{Model}
use Rattle.algebra.specs.Coefficients.{Coef}
use Rattle.rows.specs.Pieces.{Rows}
use Rattle.rows.specs.Rules.Rule.{Rule}
use Rattle.runs.specs.declared.step.Step.{Step}
use Rattle.shelves.specs.declared.core_state.Core.{Core}
use Rattle.shelves.specs.declared.refusal.Refusal.{Refusal}
use Rattle.shelves.specs.Calls.{Call, Reply}
use Rattle.shelves.specs.Effects.{Puts, Empties, Does}
use Rattle.shelves.specs.Held.{state_of}
use Rattle.shelves.specs.Questions.{Yes, AllYes, FirstNo}
use Rattle.shelves.specs.Refusals.{early}
use Rattle.shelves.specs.State.{shelf_rows}
use Rattle.shelves.specs.Stops.{Built}

module _ (m : Model) {V : Type 0} (means : V → m.Carrier) where
  -- every question of the call that is asked before unrolling says yes
  abbrev pub CoreSaysYes : Call → Core V → Type 0
  CoreSaysYes call core = AllYes (Yes m (state_of m means core) call) early

  -- the first of those questions that says no is this refusal's
  abbrev pub CoreSaysNo : Call → Core V → Refusal → Type 0
  CoreSaysNo call core = FirstNo (Yes m (state_of m means core) call) early

  -- the call with its reply takes the rack from before to after as the questions and its effect say
  abbrev pub CoreDoes : Call → Reply m → (before after : Core V) → Type 0
  CoreDoes call reply before after = Does m call reply (state_of m means before) (state_of m means after)

  -- the rows are put on shelf k with their step and arcs, and the rest is as it was
  abbrev pub CorePuts : (ℕ → Coef m × Coef m) → (k : ℕ) → Step → List Arc → (before after : Core V) → Type 0
  CorePuts row k step more before after = Puts m row k step more (state_of m means before) (state_of m means after)

  -- shelf k is emptied, and the rest is as it was
  abbrev pub CoreEmpties : (k : ℕ) → (before after : Core V) → Type 0
  CoreEmpties k before after = Empties m k (state_of m means before) (state_of m means after)

  -- the rule is unrolled onto shelf k, with this answer
  abbrev pub CoreBuilt : Rule m → (k : ℕ) → Step → List Arc → (before after : Core V) → Result ℕ Refusal → Type 0
  CoreBuilt rule k step more before after = Built m rule k step more (state_of m means before) (state_of m means after)

  -- the rows that shelf k gives
  abbrev pub core_rows : Core V → (k : ℕ) → Rows m
  core_rows core = shelf_rows (state_of m means core)
