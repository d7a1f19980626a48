-- The questions before unrolling and those of unrolling, put together.
use Rattle.std.proofs.Common.{◌≡◌, ℕ, ◌+◌, ◌≤◌, ◌⊎◌, List, [], ◌∷◌, ◌++◌, refl, subst, inl, inr, arith}
use Rattle.algebra.specs.declared.arc.Arc.{Arc}
use Rattle.algebra.specs.Model.{Model}
use Rattle.rows.specs.Repeats.{Repeats, LeastShape}
use Rattle.rows.specs.Rules.Rule.{Rule, rows}
use Rattle.runs.specs.declared.step.Step.{Step}
use Rattle.shelves.specs.declared.refusal.Refusal.{Refusal}
use Rattle.shelves.specs.declared.refusal.Refusal.TheVariants.{FewCells, NoShelf, SameShelf, ShelfTaken, ShelfEmpty, ManyCycles, BadArcs, StateWithoutArc, StepsFull, ArcsFull, LeavesAtOnce, NeverRepeats, TooLong}
use Rattle.shelves.specs.Effects.{Puts, Turns}
use Rattle.shelves.specs.Questions.{AllYes, FirstNo, RepeatsSoon, Short}
use Rattle.shelves.specs.State.{State}
use Rattle.shelves.specs.Stops.{Stopped}

module _ (yes_to : Refusal → Type 0) where
  pub all_then : (xs ys : List Refusal) → AllYes yes_to xs → AllYes yes_to ys → AllYes yes_to (xs ++ ys)
  all_then [] ys all more = more
  all_then (x ∷ xs) ys all more = (all.0, all_then xs ys all.1 more)

  pub no_before : (xs ys : List Refusal) (r : Refusal) → FirstNo yes_to xs r → FirstNo yes_to (xs ++ ys) r
  no_before [] ys r found = absurd found
  no_before (x ∷ xs) ys r (inl here) = inl here
  no_before (x ∷ xs) ys r (inr later) = inr (later.0, no_before xs ys r later.1)

  pub no_after : (xs ys : List Refusal) (r : Refusal) → AllYes yes_to xs → FirstNo yes_to ys r → FirstNo yes_to (xs ++ ys) r
  no_after [] ys r all found = found
  no_after (x ∷ xs) ys r all found = inr (all.0, no_after xs ys r all.1 found)

-- a row has one least shape
one_least : {X : Type 0} (row : ℕ → X) (t d t' d' : ℕ) → LeastShape row t d → LeastShape row t' d' → t + d ≤ t' + d'
one_least row t d t' d' a b =
    let p = a.least_period t' d' b.positive b.repeats in
    let q = b.least_period t d a.positive a.repeats in
    let e : d' ≡ d = omega arith in
    let r = a.least_transient t' (subst (Repeats row t') e b.repeats) in
    omega arith

-- what unrolling finds is the first no of its two questions
pub stop_no : {m : Model} (rule : Rule m) (found : Refusal) → Stopped rule found → ((NeverRepeats ≡ found) × ((RepeatsSoon rule × Unit {0}) → ⊥)) ⊎ ((RepeatsSoon rule × Unit {0}) × (((TooLong ≡ found) × ((Short rule × Unit {0}) → ⊥)) ⊎ ((Short rule × Unit {0}) × ⊥)))
stop_no rule NeverRepeats h = inl (
  refl,
  λ soon.
      let again = soon.0.2.earlier in h again.0 soon.0.0 again.1 soon.0.1 again.2,
)
stop_no rule TooLong h = inr (
  ((h.reply, h.soon, h.first), tt),
  inl (
    refl,
    λ short.
        let few = one_least (rows rule) h.transient h.period short.0.0 short.0.1 h.least short.0.2 in
        let long = h.long in
        let fits = short.0.3 in
        omega arith,
  ),
)
stop_no rule FewCells h = absurd h
stop_no rule NoShelf h = absurd h
stop_no rule SameShelf h = absurd h
stop_no rule ShelfTaken h = absurd h
stop_no rule ShelfEmpty h = absurd h
stop_no rule ManyCycles h = absurd h
stop_no rule BadArcs h = absurd h
stop_no rule StateWithoutArc h = absurd h
stop_no rule StepsFull h = absurd h
stop_no rule ArcsFull h = absurd h
stop_no rule LeavesAtOnce h = absurd h

-- what is unrolled and put on a shelf says yes to both questions of unrolling
pub turn_yes : {m : Model} (rule : Rule m) (n k : ℕ) (step : Step) (more : List Arc) (s s' : State m) → Turns m rule n → Puts m (rows rule) k step more s s' → (RepeatsSoon rule × Unit {0}) × ((Short rule × Unit {0}) × Unit {0})
turn_yes rule n k step more s s' turns puts = (((n, turns.0, turns.1), tt), (((puts.transient, puts.period, puts.keeps.least, puts.short), tt), tt))
