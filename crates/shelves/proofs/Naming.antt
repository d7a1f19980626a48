-- Filled shelves: what an accepted call fills, and what stays filled.
use Rattle.std.proofs.Common.{◌≡◌, ℕ, ◌≤◌, ◌≢◌, List, length, get_or, set, is_some, sym, ap, ◌∙◌, subst, arith}
use Rattle.std.specs.List.{AllByRecursion}
use Rattle.std.proofs.lemmas.List.{get_or-set_same, get_or-set_other}
use Rattle.algebra.specs.declared.arc.Arc.{Arc}
use Rattle.algebra.specs.Model.{Model}
use Rattle.algebra.specs.Coefficients.{Coef}
use Rattle.runs.specs.declared.step.Step.{Step}
use Rattle.shelves.specs.Calls.{Call, node, pause, table, pair, loop, clear, report, named, Reply, accepted, reported, refused}
use Rattle.shelves.specs.Effects.{Puts, Does}
use Rattle.shelves.specs.State.{State, ShelfState, empty_shelf}
use Rattle.shelves.specs.Filling.{IsFilled, filled_by}

module _ (m : Model) where
  put_fills : (row : ℕ → Coef m × Coef m) (k : ℕ) (made : Step) (more : List Arc) (s s' : State m) → length s.shelves ≡ 16 → k ≤ 15 → Puts m row k made more s s' → IsFilled s' k
  put_fills row k made more s s' many low puts =
      ap (λ xs. is_some (get_or xs k empty_shelf).step) puts.shelves
      ∙ ap (λ x. is_some x.step) (get_or-set_same s.shelves k _ empty_shelf (omega (arith, many)))

  -- a write elsewhere
  other_filled : (s s' : State m) (k : ℕ) (shelf : ShelfState) → s'.shelves ≡ set s.shelves k shelf → (j : ℕ) → j ≢ k → IsFilled s j → IsFilled s' j
  other_filled s s' k shelf shelves j apart filled =
      ap (λ xs. is_some (get_or xs j empty_shelf).step) shelves
      ∙ ap (λ x. is_some x.step) (get_or-set_other s.shelves k j shelf empty_shelf apart)
      ∙ filled

  -- an accepted call fills its shelves: of two put together, the one that is emptied is another
  pub fills : (c : Call) (n : ℕ) (s s' : State m) → length s.shelves ≡ 16 → Does m c (accepted n) s s' → AllByRecursion (IsFilled s') (filled_by c)
  fills (node k l) n s s' many does = (put_fills _ k _ _ s s' many does.0.0.0 does.1.1, tt)
  fills (pause k l) n s s' many does = (put_fills _ k _ _ s s' many does.0.0.0 does.1.1, tt)
  fills (table k arcs) n s s' many does = (put_fills _ k _ _ s s' many does.0.0.0 does.1.1, tt)
  fills (pair kind a b) n s s' many does =
      let between = does.1.1.2 in
      let put = put_fills _ a _ _ s between many does.0.0.0 does.1.1.5 in
      (other_filled between s' b empty_shelf does.1.1.6.shelves a does.0.1.0.0.0 put, tt)
  fills (loop k) n s s' many does = (put_fills _ k _ _ s s' many does.0.0.0 does.1.1.2, tt)
  fills (clear k) n s s' many does = tt
  fills (report k) n s s' many does = tt

  -- a filled shelf that a call does not name stays filled
  pub stays_filled : (c : Call) (r : Reply m) (s s' : State m) → Does m c r s s' → (j : ℕ) → AllByRecursion (λ k. j ≢ k) (named c) → IsFilled s j → IsFilled s' j
  stays_filled c (refused q) s s' does j apart filled = subst (λ u. IsFilled u j) (sym does.1) filled
  stays_filled c (reported t) s s' does j apart filled = subst (λ u. IsFilled u j) (sym does.2) filled
  stays_filled (node k l) (accepted n) s s' does j apart filled = other_filled s s' k _ does.1.1.shelves j apart.0 filled
  stays_filled (pause k l) (accepted n) s s' does j apart filled = other_filled s s' k _ does.1.1.shelves j apart.0 filled
  stays_filled (table k arcs) (accepted n) s s' does j apart filled = other_filled s s' k _ does.1.1.shelves j apart.0 filled
  stays_filled (pair kind a b) (accepted n) s s' does j apart filled =
      let between = does.1.1.2 in
      other_filled between s' b _ does.1.1.6.shelves j apart.1.0 (other_filled s between a _ does.1.1.5.shelves j apart.0 filled)
  stays_filled (loop k) (accepted n) s s' does j apart filled = other_filled s s' k _ does.1.1.2.shelves j apart.0 filled
  stays_filled (clear k) (accepted n) s s' does j apart filled = other_filled s s' k _ does.1.1.shelves j apart.0 filled
  stays_filled (report k) (accepted n) s s' does j apart filled = absurd does.1
