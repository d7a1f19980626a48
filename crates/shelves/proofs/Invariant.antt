-- What holds of every shelf after any history, and how filling one and emptying one keep it.
use Rattle.std.proofs.Common.{◌≡◌, ℕ, ◌≤◌, eqb, ◌≢◌, List, [], ◌∷◌, ◌++◌, length, get_or, set, Some, None, Option, sym, refl, ap, ◌∙◌, subst, ⊎_elim, arith}
use Rattle.std.proofs.lemmas.List.{length-set, get_or-set_same, get_or-set_other, append-nil}
use Rattle.std.proofs.lemmas.Bool.{cases_eq, cases_order, cond-true, cond-false, eq-eqb, ne_eqb}
use Rattle.algebra.specs.declared.arc.Arc.{Arc}
use Rattle.algebra.specs.declared.label.Label.{Label}
use Rattle.algebra.specs.Model.{Model, Laws}
use Rattle.algebra.specs.Coefficients.{Coef}
use Rattle.rows.specs.Pieces.{on_shelf, pause_at, exit_at, given_at}
use Rattle.runs.specs.OneShape.{Shelved}
use Rattle.runs.specs.Plan.{Plan}
use Rattle.runs.specs.Steps.{Spells}
use Rattle.runs.specs.Weights.{JoinedRows}
use Rattle.runs.specs.declared.step.Step.{Step}
use Rattle.runs.proofs.EachKind.{same_rows}
use Rattle.runs.proofs.Steps.{stays}
use Rattle.shelves.specs.Book.{Pages, with_page}
use Rattle.rows.specs.Filled.{OfShelf}
use Rattle.shelves.specs.Effects.{Blank, Puts, Empties}
use Rattle.shelves.specs.State.{State, ShelfState, empty_shelf, shelf_at}
use Rattle.shelves.proofs.Alive.{Alive}
use Rattle.shelves.proofs.ShelfCells.{same_pauses, same_exits, same_shelved, kept_shelved}

module _ (m : Model) where
  -- the shelf holds a step that spells the plan and is in its least shape; it gives the plan's joined weights, and something at tick 0
  pub record Sound (cells : List (Coef m)) (steps : List Step) (arcs : List Arc) (k : ℕ) (shelf : ShelfState) (plan : Plan Label) : Type 0 where
    pub step : ℕ
    pub holds : shelf.step ≡ Some step
    pub spells : Spells steps arcs step plan
    pub shelved : Shelved m cells k shelf.transient shelf.period
    pub gives : JoinedRows m m.weigh plan (pause_at (on_shelf m cells k shelf.transient shelf.period)) (exit_at (on_shelf m cells k shelf.transient shelf.period))
    pub alive : Alive m (given_at (on_shelf m cells k shelf.transient shelf.period))

  -- a shelf whose page is empty is the empty one and its cells are absent, and another is sound for its page's plan
  abbrev pub Paged : List (Coef m) → List Step → List Arc → ℕ → ShelfState → Option (Plan Label) → Type 0
  Paged cells steps arcs k shelf None = (shelf ≡ empty_shelf) × Blank m k cells
  Paged cells steps arcs k shelf (Some plan) = Sound cells steps arcs k shelf plan

  abbrev pub PagedAt : State m → ℕ → Option (Plan Label) → Type 0
  PagedAt s k page = Paged s.cells s.steps s.arcs k (shelf_at s k) page

  -- what holds of a rack beside its book
  pub record Inv (pages : Pages) (s : State m) : Type 0 where
    pub many : length s.shelves ≡ 16
    pub each : (k : ℕ) → k ≤ 15 → PagedAt s k (pages k)

-- no cell is of two shelves
no_two : (j k i : ℕ) → j ≢ k → OfShelf j i → OfShelf k i → ⊥
no_two j k i apart (low, high) (low', high') = ⊎_elim apart (⊎_elim (λ less. omega arith) (λ more. omega arith)) (cases_order j k)

module _ (m : Model) (laws : Laws m) where
  -- more steps and arcs, and other cells elsewhere
  still_sound : (before after : List (Coef m)) (steps later : List Step) (arcs more : List Arc) (k : ℕ)
      → ((i : ℕ) → OfShelf k i → get_or after i None ≡ get_or before i None)
      → (shelf : ShelfState) (plan : Plan Label) → Sound m before steps arcs k shelf plan → Sound m after (steps ++ later) (arcs ++ more) k shelf plan
  still_sound before after steps later arcs more k same shelf plan s =
      let pos = s.shelved.least.positive in
      let short = s.shelved.fits in
      record {
        step = s.step;
        holds = s.holds;
        spells = stays steps later arcs more s.step plan s.spells;
        shelved = same_shelved m before after k same shelf.transient shelf.period pos short s.shelved;
        gives = same_rows m laws m.weigh s.gives
            (same_pauses m before after k same shelf.transient shelf.period pos short)
            (same_exits m before after k same shelf.transient shelf.period pos short);
        alive = (cc (
          s.alive,
          same_pauses m before after k same shelf.transient shelf.period pos short 0,
          same_exits m before after k same shelf.transient shelf.period pos short 0,
        ));
      }

  still_paged : (before after : List (Coef m)) (steps later : List Step) (arcs more : List Arc) (k : ℕ)
      → ((i : ℕ) → OfShelf k i → get_or after i None ≡ get_or before i None)
      → (shelf : ShelfState) (page : Option (Plan Label)) → Paged m before steps arcs k shelf page → Paged m after (steps ++ later) (arcs ++ more) k shelf page
  still_paged before after steps later arcs more k same shelf None s = (s.0, λ i of. same i of ∙ s.1 i of)
  still_paged before after steps later arcs more k same shelf (Some plan) s = still_sound before after steps later arcs more k same shelf plan s

  module _ (s s' : State m) (k : ℕ) (shelf : ShelfState) (later : List Step) (more : List Arc)
      (others : (i : ℕ) → (OfShelf k i → ⊥) → get_or s'.cells i None ≡ get_or s.cells i None)
      (shelves : s'.shelves ≡ set s.shelves k shelf) (steps : s'.steps ≡ s.steps ++ later) (arcs : s'.arcs ≡ s.arcs ++ more) where
    -- every other shelf is as it was
    other_paged : (j : ℕ) → j ≢ k → (page : Option (Plan Label)) → PagedAt m s j page → PagedAt m s' j page
    other_paged j apart page p =
        let same : shelf_at s' j ≡ shelf_at s j = ap (λ xs. get_or xs j empty_shelf) shelves ∙ get_or-set_other s.shelves k j shelf empty_shelf apart in
        let here = still_paged s.cells s'.cells s.steps later s.arcs more j (λ i of. others i (no_two j k i apart of)) (shelf_at s j) page p in
        subst (λ x. Paged m s'.cells s'.steps s'.arcs j x page) (sym same)
        (subst (λ x. Paged m s'.cells x s'.arcs j (shelf_at s j) page) (sym steps)
        (subst (λ x. Paged m s'.cells (s.steps ++ later) x j (shelf_at s j) page) (sym arcs) here))

    -- shelf k is changed, and its page with it
    changed : (pages : Pages) → Inv m pages s → (page : Option (Plan Label)) → (shelf_at s' k ≡ shelf → PagedAt m s' k page) → k ≤ 15 → Inv m (with_page pages k page) s'
    changed pages inv page here low = record {
      many = ap length shelves ∙ length-set s.shelves k shelf ∙ inv.many;
      each = λ j small. ⊎_elim
          (λ e. subst (PagedAt m s' j) (sym (cond-true (eqb j k) page (pages j) (eq-eqb j k e))) (subst (λ (x : ℕ). PagedAt m s' x page) (sym e) (here put)))
          (λ apart. subst (PagedAt m s' j) (sym (cond-false (eqb j k) page (pages j) (ne_eqb j k apart))) (other_paged j apart (pages j) (inv.each j small)))
          (cases_eq j k);
    }
      where
        put : shelf_at s' k ≡ shelf
        put = ap (λ xs. get_or xs k empty_shelf) shelves ∙ get_or-set_same s.shelves k shelf empty_shelf (omega (arith, inv.many))

  -- a shelf is filled with rows that are a plan's joined weights
  pub put_keeps : (pages : Pages) (s s' : State m) → Inv m pages s → (k : ℕ) → k ≤ 15 → (row : ℕ → Coef m × Coef m) (made : Step) (more : List Arc)
      → Puts m row k made more s s' → (plan : Plan Label) → JoinedRows m m.weigh plan (λ n. (row n).0) (λ n. (row n).1) → Alive m row
      → Spells (s.steps ++ made ∷ []) (s.arcs ++ more) (length s.steps) plan → Inv m (with_page pages k (Some plan)) s'
  put_keeps pages s s' inv k low row made more puts plan gives alive spells =
      changed s s' k shelf (made ∷ []) more puts.others puts.shelves puts.steps puts.arcs pages inv (Some plan)
      (λ e. subst (λ x. Sound m s'.cells s'.steps s'.arcs k x plan) (sym e)
      (subst (λ x. Sound m s'.cells x s'.arcs k shelf plan) (sym puts.steps)
      (subst (λ x. Sound m s'.cells (s.steps ++ made ∷ []) x k shelf plan) (sym puts.arcs) new))) low
    where
      shelf : ShelfState
      shelf = record { step = Some (length s.steps); transient = puts.transient; period = puts.period }

      new : Sound m s'.cells (s.steps ++ made ∷ []) (s.arcs ++ more) k shelf plan
      new = record {
        step = length s.steps;
        holds = refl;
        spells = spells;
        shelved = kept_shelved m row k puts.transient puts.period s'.cells puts.short puts.keeps;
        gives = same_rows m laws m.weigh gives (λ n. sym (ap (λ x. x.0) (puts.keeps.gives n))) (λ n. sym (ap (λ x. x.1) (puts.keeps.gives n)));
        alive = subst (λ x. Alive m (λ (n : ℕ). x)) (sym (puts.keeps.gives 0)) alive;
      }

  -- a shelf is emptied
  pub empty_keeps : (pages : Pages) (s s' : State m) → Inv m pages s → (k : ℕ) → k ≤ 15 → Empties m k s s' → Inv m (with_page pages k None) s'
  empty_keeps pages s s' inv k low empties =
      changed s s' k empty_shelf [] [] empties.others empties.shelves (empties.steps ∙ sym (append-nil s.steps)) (empties.arcs ∙ sym (append-nil s.arcs)) pages inv None
      (λ e. (e, empties.blank)) low
