-- From noted rows to the rule's own: the least shape, and what the filled shelf gives.
use Rattle.std.proofs.Common.{◌≡◌, ℕ, zero, suc, ◌+◌, ◌-◌, ◌*◌, ◌<◌, ◌≤◌, ltb, ◌⊎◌, List, [], ◌∷◌, length, get_or, take, drop, None, Option, sym, refl, ap, ◌∙◌, inl, inr, ⊎_elim, arith}
use Rattle.std.proofs.lemmas.List.{get_or-take, get_or-drop, ext_get_or, length-drop}
use Rattle.std.proofs.lemmas.Bool.{cases_lt, cond-true, cond-false, lt-ltb, le-ltb}
use Rattle.std.specs.Option.{option_map}
use Rattle.algebra.specs.Model.{Model}
use Rattle.algebra.specs.Coefficients.{Coef}
use Rattle.rows.specs.Filled.{Filled, kept_at, OfShelf}
use Rattle.rows.specs.Phases.{phase}
use Rattle.rows.specs.Pieces.{meanings}
use Rattle.rows.specs.Repeats.{LeastShape}
use Rattle.rows.specs.Rules.Rule.{Rule, at, rows}
use Rattle.rows.specs.Unrolled.{Keeps}
use Rattle.rows.specs.Search.{noted, folded, RoundHas, LeastPeriod, LeastTransient}
use Rattle.rows.proofs.Periods.{repeating, least_shape, at_phase}
use Rattle.rows.proofs.PhaseLaws.{phase_within}

-- a tick of the next round is taken back below n
folded_within : (i n k : ℕ) → k < n + (n - i) → folded i n k < n
folded_within i n k far = ⊎_elim
    (λ near. let e = cond-true (ltb k n) k (k - (n - i)) (lt-ltb k n near) in omega arith)
    (λ past. let e = cond-false (ltb k n) k (k - (n - i)) (le-ltb k n past) in omega arith)
    (cases_lt k n)

round_like : {X : Type 0} (row like : ℕ → X) (n : ℕ) → ((k : ℕ) → k < n → row k ≡ like k) → (i d : ℕ) → d ≤ n - i → RoundHas row i n d → RoundHas like i n d
round_like row like n same i d few round k low less =
    sym (same (folded i n (k + d)) (folded_within i n (k + d) (omega arith))) ∙ round k low less ∙ same k less

module _ {X : Type 0} (row like : ℕ → X) (n : ℕ) (same : (k : ℕ) → k < n → row k ≡ like k) where
  period_like : (i d : ℕ) → LeastPeriod row i n d → LeastPeriod like i n d
  period_like i d p = record {
    positive = p.positive;
    within = p.within;
    round = round_like row like n same i d p.within p.round;
    least = λ c pos less has.
        p.least c pos less (round_like like row n (λ k l. sym (same k l)) i c (omega (arith, p.within)) has);
  }

  transient_like : (i d t : ℕ) → i + d ≤ n → 1 ≤ d → LeastTransient row i d t → LeastTransient like i d t
  transient_like i d t far pos q = record {
    within = q.within;
    back = λ k low less. sym (same (k + d) (omega arith)) ∙ q.back k low less ∙ same k (omega arith);
    least = λ k e again. q.least k e (same (k + d) (omega (arith, q.within)) ∙ again ∙ sym (same k (omega (arith, q.within))));
  }

-- the rule's rows have the least shape that the noted rows show
pub shape_of : {m : Model} (rule : Rule m) (row : ℕ → _) (i n d t : ℕ) → i < n → at rule i ≡ at rule n → ((k : ℕ) → k < n → row k ≡ rows rule k) → LeastPeriod row i n d → LeastTransient row i d t → LeastShape (rows rule) t d
shape_of rule row i n d t some e kept p q =
    least_shape (rows rule) i n some (repeating rule i n some e) d t
    (period_like row (rows rule) n kept i d p)
    (transient_like row (rows rule) n kept i d t (omega (arith, p.within)) p.positive q)

-- what cells mean at a place, past their end too
pub means_at : {V C : Type 0} (f : V → C) (xs : List (Option V)) (i : ℕ) → get_or (meanings f xs) i None ≡ option_map f (get_or xs i None)
means_at f [] i = refl
means_at f (x ∷ xs) zero = refl
means_at f (x ∷ xs) (suc i) = means_at f xs i

-- cells that agree in their first ones agree at each of these
pub agree_below : {X : Type 0} (xs ys : List (Option X)) (n : ℕ) → take n xs ≡ take n ys → (j : ℕ) → j < n → get_or xs j None ≡ get_or ys j None
agree_below xs ys n e j less = sym (get_or-take n xs j None less) ∙ ap (λ zs. get_or zs j None) e ∙ get_or-take n ys j None less

module _ (m : Model) {V : Type 0} (f : V → m.Carrier) (before after : List (Option V)) (shelf size : ℕ) (filled : Filled before after shelf size) (fits : size ≤ 64) where
  -- the phases of the shelf are the noted ticks
  filled_at : (k : ℕ) → k < size → ◌≡◌ {A = Option m.Carrier × Option m.Carrier} (get_or (meanings f after) (128 * shelf + k) None, get_or (meanings f after) (128 * shelf + 64 + k) None) (noted m (meanings f before) k)
  filled_at k less = λ i. (one (128 * shelf + k) 2048 (filled.pauses k (omega arith)) i, one (128 * shelf + 64 + k) 3072 (filled.exits k (omega arith)) i)
    where
      one : (j from : ℕ) → get_or after j None ≡ kept_at before from size k → get_or (meanings f after) j None ≡ get_or (meanings f before) (from + k) None
      one j from e =
          means_at f after j ∙ ap (option_map f) (e ∙ cond-true (ltb k size) _ _ (lt-ltb k size less)) ∙ sym (means_at f before (from + k))

  -- past the size the shelf is absent
  filled_past : (k j from : ℕ) → size ≤ k → get_or after j None ≡ kept_at before from size k → get_or (meanings f after) j None ≡ None
  filled_past k j from more e = means_at f after j ∙ ap (option_map f) (e ∙ cond-false (ltb k size) _ _ (le-ltb k size more))

-- a shelf filled from noted rows keeps them
pub shelf_keeps : (m : Model) {V : Type 0} (f : V → m.Carrier) (row : ℕ → Coef m × Coef m) (before after : List (Option V)) (shelf t d n : ℕ) → Filled before after shelf (t + d) → t + d ≤ 64 → t + d ≤ n → ((k : ℕ) → k < n → noted m (meanings f before) k ≡ row k) → LeastShape row t d → Keeps m row shelf t d (meanings f after)
shelf_keeps m f row before after shelf t d n filled fits few kept least = record {
  least = least;
  gives = λ tick.
      let within = phase_within t d least.positive tick in
      filled_at m f before after shelf (t + d) filled fits (phase t d tick) within
      ∙ kept (phase t d tick) (omega arith)
      ∙ sym (at_phase row t d least.positive least.repeats tick);
  no_pause = λ k more less. filled_past m f before after shelf (t + d) filled fits k _ 2048 more (filled.pauses k less);
  no_exit = λ k more less. filled_past m f before after shelf (t + d) filled fits k _ 3072 more (filled.exits k less);
}

-- lists of one length that agree from n on are one from n on
pub same_past : {X : Type 0} (xs ys : List (Option X)) (n : ℕ) → length xs ≡ length ys → ((j : ℕ) → n ≤ j → get_or xs j None ≡ get_or ys j None) → drop n xs ≡ drop n ys
same_past xs ys n len same =
    ext_get_or None (drop n xs) (drop n ys) (simp length-drop (omega arith))
    (λ i h. get_or-drop n xs i None ∙ same (n + i) (omega arith) ∙ sym (get_or-drop n ys i None))

-- what the shelves' cells mean is what all cells mean there
pub means_below : {V C : Type 0} (f : V → C) (xs : List (Option V)) (n j : ℕ) → j < n → get_or (meanings f (take n xs)) j None ≡ get_or (meanings f xs) j None
means_below f xs n j less =
    means_at f (take n xs) j ∙ ap (option_map f) (get_or-take n xs j None less) ∙ sym (means_at f xs j)

-- rows that a shelf keeps are kept among the shelves' cells alone
pub kept_below : (m : Model) {V : Type 0} (f : V → m.Carrier) (row : ℕ → Coef m × Coef m) (cells : List (Option V)) (shelf t d : ℕ) → shelf ≤ 15 → t + d ≤ 64 → Keeps m row shelf t d (meanings f cells) → Keeps m row shelf t d (meanings f (take 2048 cells))
kept_below m f row cells shelf t d low short keeps = record {
  least = keeps.least;
  gives = λ n.
      let within = phase_within t d keeps.least.positive n in
      (λ i. (below (128 * shelf + phase t d n) (omega arith) i, below (128 * shelf + 64 + phase t d n) (omega arith) i)) ∙ keeps.gives n;
  no_pause = λ k more less. below (128 * shelf + k) (omega arith) ∙ keeps.no_pause k more less;
  no_exit = λ k more less. below (128 * shelf + 64 + k) (omega arith) ∙ keeps.no_exit k more less;
}
  where
    below : (j : ℕ) → j < 2048 → get_or (meanings f (take 2048 cells)) j None ≡ get_or (meanings f cells) j None
    below j less = means_below f cells 2048 j less

-- a cell that is not the shelf's lies before or after it
pub apart : (k j : ℕ) → (OfShelf k j → ⊥) → (j < 128 * k) ⊎ (128 * k + 128 ≤ j)
apart k j out = ⊎_elim
    (λ before. inl before)
    (λ from. ⊎_elim (λ within. absurd (out (from, within))) (λ after. inr after) (cases_lt j (128 * k + 128)))
    (cases_lt j (128 * k))
