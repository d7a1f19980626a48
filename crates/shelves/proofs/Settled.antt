-- Rows that are written on a shelf and recorded there are put on it.
use Rattle.std.proofs.Common.{◌≡◌, ℕ, ◌+◌, ◌≤◌, [], ◌∷◌, ◌++◌, length, get_or, take, drop, set, Some, None, sym, ap, ◌∙◌, subst}
use Rattle.std.proofs.lemmas.List.{append-nil}
use Rattle.algebra.specs.Model.{Model}
use Rattle.algebra.specs.Coefficients.{Coef}
use Rattle.rows.specs.declared.cells.Cells.{Cells}
use Rattle.rows.specs.Pieces.{meanings}
use Rattle.rows.specs.Unrolled.{Keeps}
use Rattle.runs.specs.declared.step.Step.{Step}
use Rattle.shelves.specs.declared.core_state.Core.{Core}
use Rattle.rows.specs.Filled.{OfShelf, OnlyShelf}
use Rattle.shelves.specs.Effects.{Puts}
use Rattle.shelves.specs.Held.{state_of}
use Rattle.shelves.specs.Tables.{shelves_of}
use Rattle.shelves.proofs.Unchanged.{others_mean, same_length}

module _ (m : Model) {V : Type 0} (f : V → m.Carrier) where
  -- the cells are written first, and then the step and the shape are noted
  pub settled : (row : ℕ → Coef m × Coef m) (k t d : ℕ) (made : Step) (core after : Core V) (wrote : Cells V) → t + d ≤ 64
      → Keeps m row k t d (meanings f (take 2048 wrote.lent.now)) → OnlyShelf k core.cells.lent.now wrote.lent.now → after.cells ≡ wrote
      → shelves_of after.shelves ≡ set (shelves_of core.shelves) k (record { step = Some (length core.steps.items); transient = t; period = d })
      → after.steps.items ≡ core.steps.items ++ made ∷ [] → after.arcs ≡ core.arcs
      → Puts m row k made [] (state_of m f core) (state_of m f after)
  settled row k t d made core after wrote short keeps only cells shelves steps arcs =
      let is = ap (λ (r : Cells V). r.lent.now) cells in
      record {
        transient = t;
        period = d;
        short = short;
        keeps = subst (λ xs. Keeps m row k t d (meanings f (take 2048 xs))) (sym is) keeps;
        others = others_mean f (OfShelf k) core.cells.lent.now after.cells.lent.now (λ j less out. ap (λ xs. get_or xs j None) is ∙ only.others j less out);
        shelves = shelves;
        steps = steps;
        arcs = ap (λ a. a.items) arcs ∙ sym (append-nil core.arcs.items);
        lent = ap length is ∙ same_length 4096 core.cells.lent.now wrote.lent.now core.cells.room wrote.room only.past;
        past = ap (meanings f) (ap (drop 4096) is ∙ only.past);
      }
